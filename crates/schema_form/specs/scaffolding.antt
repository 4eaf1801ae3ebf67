-- Proofs that ghost members cite: nobody has to believe these.
pub mod Shapes
