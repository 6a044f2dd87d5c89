-- The digit at its place of the table.
use Prim.Native.Nat.{◌%◌}
use native.Mathlib.Omega.{arith}
use Rattle.text.proofs.HexDigits.{digit_at}
use Rattle.text.proofs.hex.last_digit.Goals as goal

pub returns : goal.returns
returns c =
    digit_at (c.args.v % 16) (omega arith)
