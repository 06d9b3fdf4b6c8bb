-- A list of calls as the definition of runs has it, and what becomes of its entries and of the work table.
use Rattle.std.specs.Prelude.{◌≡◌, ℕ, ◌*◌, min, Bool, true, false, cond, ◌||◌, List, [], ◌∷◌, ◌++◌, map, length, take, drop, replicate, nat_lt}
use Rattle.basin.specs.declared.leaf.Leaf.{Leaf}
use Rattle.basin.specs.declared.refusal.Refusal.TheVariants.{OutOfRange}
use Rattle.basin.specs.Basins.{Basin, side}
use Rattle.basin.specs.Records.{dry}
use Rattle.basin.specs.Refusals.{number_of}
use Rattle.calls.specs.Replies.{replied}
use Rattle.runs.specs.Calls as runs
use Rattle.runs.specs.Calls.{Reply, granted, refused, run}
use Rattle.runs.specs.Rules.{Rule}
use Rattle.runs.specs.Runs.{last}
use Rattle.step.specs.Ends.{work_after}
use Rattle.lists.specs.declared.call.Call.{Call}
use Rattle.lists.specs.declared.call.Call.TheVariants.{Pour, Draw, Settle, Step, Split, Merge}
use Rattle.lists.specs.declared.call.Entry.{Entry}

-- the call that a call of a list is, where the values of A mean rules and the work table has so many entries
abbrev pub call_of : {A : Type 0} → (A → Rule) → ℕ → Call A → runs.Call
call_of meaning work (Pour x y amount) = runs.pour x y amount
call_of meaning work (Draw x y amount) = runs.draw x y amount
call_of meaning work (Settle x y) = runs.settle x y
call_of meaning work (Step time rule entries) = runs.step time (meaning rule) (min entries work)
call_of meaning work (Split x y) = runs.split x y
call_of meaning work (Merge x y) = runs.merge x y

-- the calls of a list, and what its entries say that they replied
abbrev pub calls_of : {A : Type 0} → (A → Rule) → ℕ → List (Entry A) → List runs.Call
calls_of meaning work es = map (λ e. call_of meaning work e.call) es

abbrev pub replies_of : {A : Type 0} → List (Entry A) → List Reply
replies_of es = map (λ e. replied e.reply) es

-- the work table after one call
abbrev pub work_after_call : {A : Type 0} → Call A → Reply → List Leaf → List Leaf
work_after_call (Pour x y amount) r work = work
work_after_call (Draw x y amount) r work = work
work_after_call (Settle x y) r work = work
work_after_call (Step time rule entries) r work = work_after r (take entries work) ++ drop entries work
work_after_call (Split x y) r work = work
work_after_call (Merge x y) r work = work

-- a step that was not refused before its time was found in range
abbrev pub timed : runs.Call → Reply → Bool
timed (runs.pour x y a) r = false
timed (runs.draw x y a) r = false
timed (runs.settle x y) r = false
timed (runs.step T R m) (granted moved) = true
timed (runs.step T R m) (refused r) = nat_lt (number_of OutOfRange) (number_of r)
timed (runs.split x y) r = false
timed (runs.merge x y) r = false

-- there is such a step among the calls
abbrev pub some_timed : List runs.Call → List (Reply × Basin) → Bool
some_timed [] rs = false
some_timed (c ∷ cs) [] = false
some_timed (c ∷ cs) (r ∷ rs) = timed c r.0 || some_timed cs rs

-- the work table at the end of a list: zeros over the entries of the basin's squares once there was such a step, and else as it was
abbrev pub work_left : Basin → Bool → List Leaf → List Leaf
work_left b once work = cond once (replicate (side b.head * side b.head) dry ++ drop (side b.head * side b.head) work) work

-- what a list of calls leaves: the same calls with the replies of the run, the basin at its end, and the work table
pub record Performed {A : Type 0} (meaning : A → Rule) (es es' : List (Entry A)) (w w' : List Leaf) (b b' : Basin) : Type 0 where
  pub calls : map (λ e. e.call) es' ≡ map (λ e. e.call) es
  pub replies : replies_of es' ≡ map (λ r. r.0) (run (calls_of meaning (length w) es) b)
  pub basin : b' ≡ last b (run (calls_of meaning (length w) es) b)
  pub work : w' ≡ work_left b (some_timed (calls_of meaning (length w) es) (run (calls_of meaning (length w) es) b)) w
