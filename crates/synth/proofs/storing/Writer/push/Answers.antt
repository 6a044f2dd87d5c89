-- Three bytes, one after the other.
use mathlib.Core.Path.{refl}
use Rattle.synth.proofs.Stores.{stored_one}
use Rattle.synth.proofs.storing.Writer.push.Goals as goal

pub returns : goal.returns
returns c = stored_one _ _ _ _ _ refl refl refl refl refl
