-- What the standard library could have: tests of all numbers below n, which are proved by computing them.
--
-- `p` is the test, `t` or `h` the fact that it computes to true, and `T b` says that the Boolean b is true.
use Rattle.std.proofs.Common.{◌≡◌, true, ℕ, ◌<◌, Bool, T, eqb, eqb→eq}
use Rattle.std.proofs.lemmas.Bool.{agree_below, agree_below_at}
use Rattle.std.proofs.lemmas.Float.{T_from_true}
use lib.Ieee.Bits.{is_true}
-- under a name that `using(..)` in a source file can write
pub use mathlib.Core.Logic.Iff.{trans as through}

-- whether p is true of each number below n
abbrev pub holds_below : (ℕ → Bool) → ℕ → Bool
holds_below p = agree_below p (λ _. true)

-- then it is true of i
pub every_below : (p : ℕ → Bool) (n : ℕ) → T (holds_below p n) → (i : ℕ) → i < n → T (p i)
every_below p n h i l = T_from_true (p i) (agree_below_at p (λ _. true) n i (is_true _ h) l)

-- two functions that agree below n agree at i
pub same_below : (f g : ℕ → ℕ) (n : ℕ) → T (holds_below (λ i. eqb (f i) (g i)) n) → (i : ℕ) → i < n → f i ≡ g i
same_below f g n h i l = eqb→eq _ _ (every_below (λ i. eqb (f i) (g i)) n h i l)

-- the same for a test of two numbers
pub every_pair : (p : ℕ → ℕ → Bool) (m n : ℕ) → T (holds_below (λ i. holds_below (p i) n) m) → (i j : ℕ) → i < m → j < n
    → T (p i j)
every_pair p m n t i j h k = every_below (p i) n (every_below (λ i. holds_below (p i) n) m t i h) j k
