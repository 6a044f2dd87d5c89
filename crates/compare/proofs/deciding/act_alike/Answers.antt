-- Both lists are read, and what they say decides.
use Rattle.circuit.specs.Faults.{AllWellFormed}
use Rattle.circuit.specs.Gate.{gates_of}
use Rattle.compare.proofs.CompareWays.{alike_by_reading, read_is_sound}
use Rattle.reader.specs.Entry.{ReadAll}
use Rattle.compare.proofs.deciding.act_alike.Goals as goal

pub say_same-requires : goal.say_same-requires
say_same-requires c =
    let first = c.args.first.now in
    let second = c.args.second.now in
    let few = first.wires.few in
    let formed : AllWellFormed first.wires.count (gates_of second.gates.now) = rw c.requires at second.formed in
    let other : ReadAll first.wires.count second.gates.now c.read_gates-other.result = rw c.requires at c.read_gates-other.ensures in
    (read_is_sound few formed other, read_is_sound few first.formed c.read_gates-one.ensures)

pub returns : goal.returns
returns c =
    let first = c.args.first.now in
    let second = c.args.second.now in
    let formed : AllWellFormed first.wires.count (gates_of second.gates.now) = rw c.requires at second.formed in
    let other : ReadAll first.wires.count second.gates.now c.read_gates-other.result = rw c.requires at c.read_gates-other.ensures in
    alike_by_reading first.wires.few first.formed formed c.read_gates-one.ensures other c.say_same.ensures
