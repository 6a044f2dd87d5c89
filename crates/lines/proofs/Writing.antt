-- What calls write one after the other, and the loop over the gates.
use mathlib.Core.List.{List, [], ◌++◌, map}
use mathlib.Core.Path.{◌∙◌, ◌≡◌, ap, refl, sym}
use Prim.Native.Nat.{◌*◌, ◌+◌, ◌/◌, ◌<◌, ◌≤◌, ℕ}
use native.Mathlib.Nat.{zero-add}
use native.Mathlib.Omega.{arith}
use lib.ListN.{drop, drop_of_length-le, get_or, length}
use lib.Seq.{length-sets, sets}
use Rattle.std.proofs.lemmas.List.{at_drop_more, length-map}
use Rattle.circuit.proofs.Bytes.{gates_in}
use Rattle.circuit.proofs.Placing.{sets_append, sets_placed}
use Rattle.circuit.specs.Gate.{gate_of, gates_of}
use Rattle.circuit.specs.Lent.{placed}
use Rattle.circuit.specs.Limits.{gate_bytes}
use Rattle.text.specs.Limits.{gate_line_bytes}
use Rattle.lines.specs.Placed.{Writes}
use Rattle.text.specs.Written.{gate_line, gate_lines}

-- bytes laid into the front of what was lent
pub front_written : (was part these : List ℕ) → part ≡ these → Writes was 0 these (part ++ drop (length these) was) (length these)
front_written was part these e = record { onward = sym (zero-add (length these)); written = rw (e, zero-add (length these)) refl }

-- ---- the loop over the gates, three bytes each

-- the lines of the gates from gate i on
abbrev lines_from : List (List ℕ) → ℕ → List ℕ
lines_from gates i = gate_lines (map gate_of (drop i gates))

-- the line of gate i
abbrev pub line_at : List (List ℕ) → ℕ → List ℕ
line_at gates i = gate_line (gate_of (get_or gates i []))

-- i lines are written: what is left, stored behind them, gives all of them
pub record PutTo (gates : List (List ℕ)) (was left : List ℕ) (i : ℕ) : Type 0 where
  pub room : gate_line_bytes * length gates ≤ length was
  pub long : length left ≡ length was
  pub counted : gate_line_bytes * i + length (lines_from gates i) ≡ length (lines_from gates 0)
  pub put : sets left (gate_line_bytes * i) (lines_from gates i) ≡ sets was 0 (lines_from gates 0)

-- the caller lends a line for every three bytes
pub none_put : {gates : List (List ℕ)} (list was : List ℕ) → map gate_of gates ≡ gates_of list
    → gate_line_bytes * (length list / gate_bytes) ≤ length was → PutTo gates was was 0
none_put {gates} list was e h =
    let few : length gates ≡ length (gates_of list) = sym (length-map gates gate_of) ∙ ap length e in
    record { room = omega (arith, few, gates_in list, h); long = refl; counted = omega arith; put = refl }

module _ {gates : List (List ℕ)} {was left : List ℕ} {i : ℕ} (p : PutTo gates was left i) where
  module _ (inside : i < length gates) where
    step : lines_from gates i ≡ line_at gates i ++ lines_from gates (i + 1)
    unfolding gate_lines
    step = at_drop_more (λ (rest : List (List ℕ)). gate_lines (map gate_of rest)) gates i [] inside

    pub gate_put : {left' : List ℕ} → left' ≡ placed left (gate_line_bytes * i) (line_at gates i) → PutTo gates was left' (i + 1)
    gate_put {left'} is =
        let e = is ∙ sym (sets_placed left (gate_line_bytes * i) (line_at gates i) (omega (arith, p.long, p.room))) in
        record {
          room = p.room;
          long = ap length e ∙ length-sets left (gate_line_bytes * i) (line_at gates i) ∙ p.long;
          counted = omega (arith, p.counted, ap length step);
          put =
              ap (λ (l : List ℕ). sets l (gate_line_bytes * (i + 1)) (lines_from gates (i + 1))) e
              ∙ sets_append left (line_at gates i) (lines_from gates (i + 1)) (gate_line_bytes * i) (gate_line_bytes * (i + 1))
              (omega arith)
              ∙ ap (sets left (gate_line_bytes * i)) (sym step)
              ∙ p.put;
        }

  -- no gate is left
  pub gates_put : i ≡ length gates → Writes was 0 (lines_from gates 0) left (gate_line_bytes * length gates)
  unfolding gate_lines
  gates_put e =
      let none : lines_from gates i ≡ [] =
      ap (λ (rest : List (List ℕ)). gate_lines (map gate_of rest)) (drop_of_length-le gates (omega arith)) in
      let all : gate_line_bytes * i ≡ 0 + length (lines_from gates 0) = omega (arith, p.counted, ap length none) in
      record {
        onward = rw e at all;
        written = (rw none at p.put) ∙ sets_placed was 0 (lines_from gates 0) (omega (arith, all, e, p.room));
      }
