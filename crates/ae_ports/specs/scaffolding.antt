-- Proofs that ghost fields and ghost members cite, and nothing that has to be believed. They stand in `specs/`, since code can
-- cite no file of proofs.
pub mod Lending
