-- The move that is read, if it is legal.
use mathlib.Core.Bool.{Bool, false, true}
use mathlib.Core.Path.{refl}
use Rattle.circuit.specs.Limits.{max_members, max_wires}
use Rattle.gf2.specs.Tests.{Decides}
use Rattle.moves.proofs.Logs.{cells_checked}
use Rattle.legality.proofs.Conditions.{not_legal, says_legal}
use Rattle.std.specs.Bool.{then_some}
use Rattle.std.specs.Option.{MatchOption}
use Rattle.legality.proofs.legal_move.Goals as goal

some_if : {X P G : Type 0} (Q : X → Type 0) (x : X) (t : Bool) → Decides t G → (G → Q x) → ((G → ⊥) → P) → MatchOption (then_some t x) P Q
some_if Q x true d said none = said (d.0 refl)
some_if Q x false d said none = none (d.1 refl)

pub returns-in_err-said : goal.returns-in_err-said
returns-in_err-said c =
    rw c.from_residual.ensures
    (λ g. c.in_err-said.ensures ((cells_checked max_members max_wires c.args.marks.now c.args.cells.now).0 g).0)

pub returns : goal.returns
returns c =
    rw c.then_some.ensures
    (some_if _ c.in_ok-said.said c.is_legal.result c.is_legal.ensures (says_legal c.in_ok-said.ensures) (not_legal c.in_ok-said.ensures))
