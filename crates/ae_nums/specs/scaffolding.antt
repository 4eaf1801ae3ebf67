-- Proofs that ghost members cite, and nothing that has to be believed. They stand in `specs/`, since code can cite no file of
-- proofs.
pub mod Joining
