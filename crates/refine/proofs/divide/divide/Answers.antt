use Rattle.std.proofs.Common.{sym, ◌∙◌, arith}
use Rattle.std.proofs.lemmas.Bool.{lt-ltb, le-ltb}
use Rattle.refine.proofs.Divided.{division_wet, division_dry}
use Rattle.refine.proofs.divide.divide.Goals as goal

pub returns-then-leaf-gt0 : goal.returns-then-leaf-gt0
returns-then-leaf-gt0 c =
    record { value = c.divide_wet.ensures.value ∙ sym (division_wet _ _ _ _ (lt-ltb _ _ c.if-leaf-gt0.true)); few = c.divide_wet.ensures.few }

pub returns : goal.returns
returns c = record { value = sym (division_dry _ _ _ _ (le-ltb _ _ c.if-leaf-gt0.false)); few = omega (arith, c.requires.little) }
