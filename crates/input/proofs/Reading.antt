-- What was read, as the first bytes of what the reader had.
use Rattle.std.proofs.Common.{[], List, None, Some, IfSome, ◌+◌, ◌++◌, ◌-◌, ◌<◌, ◌≡◌, ◌≤◌, suc, zero, ℕ}
use Rattle.std.proofs.Common.{ap, append-nil, arith, length, refl, subst, sym, take, ◌∙◌}
use Rattle.std.proofs.Math.Seq.{take-append-add}
use Rattle.std.specs.declared.option.Option.{Option}
use Rattle.input.specs.Kept.{Takes}

-- so much was read, within the room
module _ (room : ℕ) (read : List ℕ) (within : length read ≤ room) where
  nothing_more : (k : ℕ) (ys : List ℕ) → (0 < k → ys ≡ []) → take k ys ≡ []
  nothing_more zero ys h = refl
  nothing_more (suc k) ys h = ap (take (suc k)) (h (omega arith))

  -- they are the first bytes of the input, as many as there is room for
  first_bytes : (xs ys : List ℕ) → xs ≡ read ++ ys → (length read < room → ys ≡ []) → take room xs ≡ read
  first_bytes xs ys had all =
      let k = room - length read in
      let most : room ≡ length read + k = omega (arith, within) in
      let none = nothing_more k ys (λ h. all (omega arith)) in
      ap (take room) had ∙ ap (λ m. take m (read ++ ys)) most ∙ take-append-add read ys k ∙ ap (λ l. read ++ l) none ∙ append-nil read

  -- what holds of them holds of the whole input, if the first so many bytes decide
  pub of_input : (P : List ℕ → Type 0) (had left : Option (List ℕ)) → Takes had left room read
      → ((xs : List ℕ) → P (take room xs) → P xs) → P read → IfSome had P
  of_input P None left t decide p = tt
  of_input P (Some xs) None t decide p = absurd t.0
  of_input P (Some xs) (Some ys) t decide p = decide xs (subst P (sym (first_bytes xs ys t.0 t.1)) p)
