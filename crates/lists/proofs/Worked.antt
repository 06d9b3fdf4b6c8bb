-- The work table at the end of a list, and the list once it has been performed.
use Rattle.std.proofs.Common.{◌≡◌, ℕ, ◌*◌, ◌^◌, ◌≤◌, min, Bool, true, false, cond, not, ◌||◌, eqb, ltb, List, [], ◌∷◌, ◌++◌, map, length, take, drop, replicate, Ok, Err, Result, sym, refl, ap, ◌∙◌, inl, inr, arith, length-append, length-drop, take-append-drop, drop_of_length-le, length-take, drop_at}
use lib.ListN.{length-replicate}
use Rattle.std.proofs.Math.Bool.{or-false, or_assoc}
use Rattle.std.proofs.lemmas.Bool.{cases_lt, eqb-true}
use Rattle.basin.specs.declared.leaf.Leaf.{Leaf}
use Rattle.basin.specs.declared.refusal.Refusal.{Refusal}
use Rattle.basin.specs.declared.refusal.Refusal.TheVariants.{TableLength, NotABasin, OutOfRange}
use Rattle.basin.specs.Basins.{Basin, side, view}
use Rattle.basin.specs.Flaws.{misfit, no_basin}
use Rattle.basin.specs.Records.{dry}
use Rattle.basin.specs.Refusals.{number_of}
use Rattle.basin.proofs.Tests.{differ}
use Rattle.runs.specs.Calls as runs
use Rattle.runs.specs.Calls.{Call, Reply, granted, refused, first_of, tests, made, verdict, outcome, perform, run}
use Rattle.runs.specs.Rules.{Rule}
use Rattle.step.specs.Ends.{work_after}
use Rattle.lists.specs.declared.call.Call.TheVariants.{Pour, Draw, Settle, Step, Split, Merge}
use Rattle.lists.specs.declared.call.Entry.{Entry}
use Rattle.lists.specs.declared.call.Call as list
use Rattle.lists.specs.Lists.{call_of, calls_of, work_after_call, timed, some_timed, work_left, replies_of, Performed}
use Rattle.lists.proofs.Served.{worked, Next, served_calls, served_replies, reached_last}

-- ---- a basin keeps its size
keeps_levels : (c : Call) (b : Basin) → (perform c b).1.head.L ≡ b.head.L
keeps_levels c b = go (verdict c b)
  where
    made_levels : (c : Call) → (made b.head.loose (view b) c).L ≡ b.head.L
    made_levels (runs.pour x y a) = refl
    made_levels (runs.draw x y a) = refl
    made_levels (runs.settle x y) = refl
    made_levels (runs.step T R m) = refl
    made_levels (runs.split x y) = refl
    made_levels (runs.merge x y) = refl

    go : (r : Result (Unit {0}) Refusal) → (outcome r c b).1.head.L ≡ b.head.L
    go (Ok t) = made_levels c
    go (Err r) = refl

pub keeps_side : (c : Call) (b : Basin) → side (perform c b).1.head ≡ side b.head
keeps_side c b = ap (λ L. 2 ^ L) (keeps_levels c b)

-- ---- a step that was found in time has a full work table
timed_full : (T : ℕ) (R : Rule) (m : ℕ) (b : Basin) → timed (runs.step T R m) (perform (runs.step T R m) b).0 ≡ true → m ≡ side b.head * side b.head
unfolding verdict
timed_full T R m b e = go (misfit b.head b.tables) (eqb m (side b.head * side b.head)) refl e
  where
    go : (f t : Bool) → eqb m (side b.head * side b.head) ≡ t
        → timed (runs.step T R m) (outcome (cond f (Err TableLength) (cond (not t) (Err TableLength) (cond (no_basin b) (Err NotABasin)
        (first_of (tests b.head.loose (view b) (runs.step T R m)))))) (runs.step T R m) b).0 ≡ true
        → m ≡ side b.head * side b.head
    go true t h e = differ false e refl
    go false false h e = differ false e refl
    go false true h e = eqb-true m (side b.head * side b.head) h

-- ---- the work table
module _ (n : ℕ) (w : List Leaf) where
  -- zeros over the first n entries once a step was found in time
  abbrev left : Bool → List Leaf
  left once = cond once (replicate n dry ++ drop n w) w

  left_rest : (once : Bool) → drop n (left once) ≡ drop n w
  left_rest true = drop_at (replicate n dry) (drop n w) n (length-replicate n dry)
  left_rest false = refl

  -- one step more, with the first m entries lent
  left_kept : (once : Bool) (m : ℕ) → take m (left once) ++ drop m (left once) ≡ left (once || false)
  left_kept true m = take-append-drop m (left true)
  left_kept false m = take-append-drop m w

  left_cleared : (once : Bool) (m : ℕ) → min m (length w) ≡ n → length (left once) ≡ length w
      → replicate (length (take m (left once))) dry ++ drop m (left once) ≡ left (once || true)
  left_cleared once m e f =
      let count : length (take m (left once)) ≡ n = length-take m (left once) ∙ ap (λ k. min m k) f ∙ e in
      ap (λ k. replicate k dry ++ drop m (left once)) count ∙ ap (λ rest. replicate n dry ++ rest) (rest once m e f) ∙ both once
    where
      both : (once : Bool) → replicate n dry ++ drop n w ≡ left (once || true)
      both true = refl
      both false = refl

      rest : (once : Bool) (m : ℕ) → min m (length w) ≡ n → length (left once) ≡ length w → drop m (left once) ≡ drop n w
      rest once m e f = elim (cases_lt m (length w)) [
        | inl h ↦ let s : m ≡ n = omega arith in ap (λ k. drop k (left once)) s ∙ left_rest once
        | inr h ↦
            let s : length w ≡ n = omega arith in
            drop_of_length-le (left once) (omega arith) ∙ sym (drop_of_length-le w (omega arith))
      ]

  left_same : (once : Bool) → left once ≡ left (once || false)
  left_same once = ap left (sym (or-false once))

  left_again : (a b c : Bool) → left ((a || b) || c) ≡ left (a || (b || c))
  left_again a b c = ap left (or_assoc a b c)

  left_length : (once : Bool) → (once ≡ true → n ≤ length w) → length (left once) ≡ length w
  left_length true room = let h = room refl in length-append (replicate n dry) (drop n w) ∙ omega (arith, length-replicate n dry, length-drop n w)
  left_length false room = refl

  -- a step, by whether it was found in time
  by_time : (once : Bool) (m : ℕ) → length (left once) ≡ length w → (t : Bool) → (t ≡ true → min m (length w) ≡ n)
      → cond t (replicate (length (take m (left once))) dry) (take m (left once)) ++ drop m (left once) ≡ left (once || t)
  by_time once m f true g = left_cleared once m (g refl) f
  by_time once m f false g = left_kept once m

-- ---- one call
module _ {A : Type 0} (meaning : A → Rule) (w : List Leaf) (n : ℕ) where
  after_step : (once : Bool) (T : ℕ) (r : A) (m : ℕ) (b : Basin) → side b.head * side b.head ≡ n → length (left n w once) ≡ length w
      → (q : Reply) → (perform (runs.step T (meaning r) (min m (length w))) b).0 ≡ q
      → work_after q (take m (left n w once)) ++ drop m (left n w once) ≡ left n w (once || timed (runs.step T (meaning r) (min m (length w))) q)
  after_step once T r m b e f (granted a) h =
      by_time n w once m f true
      (λ t. timed_full T (meaning r) (min m (length w)) b (ap (timed (runs.step T (meaning r) (min m (length w)))) h) ∙ e)
  after_step once T r m b e f (refused z) h =
      by_time n w once m f (ltb (number_of OutOfRange) (number_of z))
      (λ t. timed_full T (meaning r) (min m (length w)) b (ap (timed (runs.step T (meaning r) (min m (length w)))) h ∙ t) ∙ e)

  after_one : (once : Bool) (c : list.Call A) (b : Basin) → side b.head * side b.head ≡ n → length (left n w once) ≡ length w
      → work_after_call c (perform (call_of meaning (length w) c) b).0 (left n w once)
      ≡ left n w (once || timed (call_of meaning (length w) c) (perform (call_of meaning (length w) c) b).0)
  after_one once (Pour x y a) b e f = left_same n w once
  after_one once (Draw x y a) b e f = left_same n w once
  after_one once (Settle x y) b e f = left_same n w once
  after_one once (Step T r m) b e f = after_step once T r m b e f (perform (runs.step T (meaning r) (min m (length w))) b).0 refl
  after_one once (Split x y) b e f = left_same n w once
  after_one once (Merge x y) b e f = left_same n w once

  -- a step that was found in time had room
  had_room : (c : list.Call A) (b : Basin) → side b.head * side b.head ≡ n
      → timed (call_of meaning (length w) c) (perform (call_of meaning (length w) c) b).0 ≡ true → n ≤ length w
  had_room (Pour x y a) b e t = differ false t refl
  had_room (Draw x y a) b e t = differ false t refl
  had_room (Settle x y) b e t = differ false t refl
  had_room (Step T r m) b e t = omega (arith, timed_full T (meaning r) (min m (length w)) b t, e)
  had_room (Split x y) b e t = differ false t refl
  had_room (Merge x y) b e t = differ false t refl

  -- ---- all calls
  after_all : (once : Bool) → (once ≡ true → n ≤ length w) → (es : List (Entry A)) (b : Basin) → side b.head * side b.head ≡ n
      → worked meaning (length w) (length es) es b (left n w once)
      ≡ left n w (once || some_timed (calls_of meaning (length w) es) (run (calls_of meaning (length w) es) b))
  after_all once room [] b e = left_same n w once
  after_all once room (x ∷ es) b e =
      let c = call_of meaning (length w) x.call in
      let b' = (perform (call_of meaning (length w) x.call) b).1 in
      let t = timed (call_of meaning (length w) x.call) (perform (call_of meaning (length w) x.call) b).0 in
      ap (worked meaning (length w) (length es) es b') (after_one once x.call b e (left_length n w once room))
      ∙ after_all (once || t) (later once t room (had_room x.call b e)) es b' ((λ i. keeps_side c b i * keeps_side c b i) ∙ e)
      ∙ left_again n w once t (some_timed (calls_of meaning (length w) es) (run (calls_of meaning (length w) es) b'))
    where
      later : (a b : Bool) → (a ≡ true → n ≤ length w) → (b ≡ true → n ≤ length w) → (a || b) ≡ true → n ≤ length w
      later true b f g h = f refl
      later false b f g h = g h

pub work_is : {A : Type 0} (meaning : A → Rule) (w : List Leaf) (es : List (Entry A)) (b : Basin)
    → worked meaning (length w) (length es) es b w ≡ work_left b (some_timed (calls_of meaning (length w) es) (run (calls_of meaning (length w) es) b)) w
work_is meaning w es b = after_all meaning w (side b.head * side b.head) false (λ e. differ false e refl) es b refl

-- ---- the list, once all of its calls have been performed
pub all_performed : {A : Type 0} (meaning : A → Rule) (i : ℕ) (es es' : List (Entry A)) (b b' : Basin) (w w' : List Leaf) → i ≡ length es
    → Next meaning (length w) i es es' b b' w w' → Performed meaning es es' w w' b b'
all_performed meaning i es es' b b' w w' all next =
    let end = rw all at next in
    record {
      calls = ap (map (λ e. e.call)) end.entries ∙ served_calls meaning (length w) es b;
      replies = ap replies_of end.entries ∙ served_replies meaning (length w) es b;
      basin = end.basin ∙ reached_last meaning (length w) es b;
      work = end.work ∙ work_is meaning w es b;
    }
