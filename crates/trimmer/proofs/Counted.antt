-- The marks of n wires, summed as a list, are as many as the members.
use mathlib.Core.List.{List, [], ◌∷◌}
use mathlib.Core.Path.{◌∙◌, ◌≡◌, ap, refl, sym}
use Prim.Native.Nat.{◌+◌, ◌^◌, ◌≤◌, ℕ}
use native.Mathlib.Omega.{arith}
use lib.ListN.{get_or, length, take}
use lib.Seq.{get_or-take, length-take-le}
use Rattle.std.proofs.lemmas.List.Sums.{sum_by-cons}
use Rattle.std.specs.List.{sum as list_sum}
use Rattle.circuit.proofs.OddSet.{members_sum}
use Rattle.circuit.specs.Limits.{parities}
use Rattle.circuit.specs.OddSet.{member_count}
use Rattle.circuit.specs.TableFaults.{Marked}
use Rattle.gf2.proofs.Pairing.{sum-stop}
use Rattle.gf2.proofs.Sum.{sum-const, sum-ext, sum-front, sum-le}
use Rattle.gf2.specs.Sum.{sum}
use Rattle.moves.proofs.Laws.{limits_suffice}

-- a list's sum is that of its numbers
listed : (xs : List ℕ) → list_sum xs ≡ sum (length xs) (λ p. get_or xs p 0)
unfolding sum
listed [] = refl
listed (x ∷ xs) =
    sum_by-cons (λ (t : ℕ). t) x xs ∙ ap (λ (t : ℕ). x + t) (listed xs)
    ∙ sym (sum-front (length xs) (λ p. get_or (x ∷ xs) p 0))

module _ {n : ℕ} {marks : List ℕ} (m : Marked n marks) where
  -- the first 2^n
  front_listed : list_sum (take (2 ^ n) marks) ≡ sum (2 ^ n) (λ p. get_or marks p 0)
  front_listed =
      let long : length (take (2 ^ n) marks) ≡ 2 ^ n =
      length-take-le (2 ^ n) marks (omega (arith, m.sound.long, (limits_suffice n m.few).0)) in
      listed (take (2 ^ n) marks) ∙ ap (λ (k : ℕ). sum k (λ p. get_or (take (2 ^ n) marks) p 0)) long
      ∙ sum-ext (2 ^ n) (λ p. get_or (take (2 ^ n) marks) p 0) (λ p. get_or marks p 0) (λ p l. get_or-take (2 ^ n) marks p 0 l)

  -- no mark is from 2^n up
  pub members_listed : list_sum (take (2 ^ n) marks) ≡ member_count marks
  members_listed =
      front_listed
      ∙ sym (members_sum marks m.sound.bits ∙ ap (λ (k : ℕ). sum k (λ p. get_or marks p 0)) m.sound.long
      ∙ sum-stop (2 ^ n) parities (λ p. get_or marks p 0) (limits_suffice n m.few).0 m.sound.high)

  -- each is at most 1
  pub members_few : list_sum (take (2 ^ n) marks) ≤ parities
  members_few =
      let most = sum-le (2 ^ n) (λ p. get_or marks p 0) (λ p. 1) (λ p l. omega (arith, m.sound.bits p)) in
      omega (arith, front_listed, most, sum-const (2 ^ n) 1, (limits_suffice n m.few).0)
