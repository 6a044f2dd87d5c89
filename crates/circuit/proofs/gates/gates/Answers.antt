-- The slice cut into threes.
use mathlib.Core.Path.{◌∙◌, ap, refl}
use mathlib.Core.List.{map}
use Rattle.circuit.proofs.Bytes.{gates_chunked}
use Rattle.circuit.specs.Gate.{gate_of}
use Rattle.circuit.proofs.gates.gates.Goals as goal

pub returns : goal.returns
returns c = ap (map gate_of) c.as_chunks.ensures.front ∙ gates_chunked c.args.list.now _ refl
