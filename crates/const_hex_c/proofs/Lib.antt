-- The proofs: those of functions stand in folders like the modules of `src`, lemmas in `lemmas`.
mod lemmas
