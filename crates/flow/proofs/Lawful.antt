-- A rule of the code is a rule of the runs.
use Rattle.runs.specs.Rules.{Rule, Lawful, Rests, Mirrors, MirrorsAlong}

-- for the laws of an implementor, which are about its meaning
pub lawful : (R : Rule) → Rests R → Mirrors R → MirrorsAlong R → Lawful R
lawful R rest mirror along =
    record {
      rest_flow = rest.flow;
      rest_push = rest.push;
      rest_drift = rest.drift;
      mirror_flow = mirror.flow;
      mirror_push = mirror.push;
      mirror_drift = mirror.drift;
      along_flow = along.flow;
      along_push = along.push;
      along_drift = along.drift;
    }
