-- Answers of both rules, worked out by hand.
use Rattle.std.specs.Prelude.{◌≡◌, pos, negsuc}
use Rattle.runs.specs.Rules.{at_rest}
use Rattle.flow.specs.Centrals.{central}
use Rattle.flow.specs.Ponds.{pond}
use Rattle.flow.specs.States.{state}

pub record Worked : Type 0 where
  -- a metre of water at rest beside dry ground
  pub fall_flow : central.flow (at_rest 1000) (at_rest 0) ≡ pos 1566000
  pub fall_push : central.push (at_rest 1000) (at_rest 0) ≡ pos 2452500000
  pub fall_drift : central.drift (at_rest 1000) (at_rest 0) ≡ pos 0
  pub pond_flow : pond.flow (at_rest 1000) (at_rest 0) ≡ pos 3132000
  pub pond_push : pond.push (at_rest 1000) (at_rest 0) ≡ pos 2452500000
  -- dry ground beside a millimetre of water: −49, and half of 4,905 with the half dropped
  pub drop_flow : central.flow (at_rest 0) (at_rest 1) ≡ negsuc 48
  pub drop_push : central.push (at_rest 0) (at_rest 1) ≡ pos 2452
  -- water that runs alike on both sides
  pub even_flow : central.flow (state 100 (pos 50) (pos 20)) (state 100 (pos 50) (pos 20)) ≡ pos 5000
  pub even_push : central.push (state 100 (pos 50) (pos 20)) (state 100 (pos 50) (pos 20)) ≡ pos 49300000
  pub even_drift : central.drift (state 100 (pos 50) (pos 20)) (state 100 (pos 50) (pos 20)) ≡ pos 100000
