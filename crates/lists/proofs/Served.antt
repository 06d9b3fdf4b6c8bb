-- The entries, the basin and the work table once the first calls of a list have been performed.
use Rattle.std.proofs.Common.{◌≡◌, ℕ, zero, suc, ◌+◌, ◌<◌, List, [], ◌∷◌, map, length, get_or, set, Ok, Err, Result, refl, ap, ◌∙◌, add-one, arith}
use Rattle.std.specs.List.{AllByRecursion}
use Rattle.basin.specs.declared.leaf.Leaf.{Leaf}
use Rattle.basin.specs.declared.refusal.Refusal.{Refusal}
use Rattle.basin.specs.Basins.{Basin}
use Rattle.calls.specs.Replies.{replied}
use Rattle.runs.specs.Calls.{Reply, granted, refused, perform, run}
use Rattle.runs.specs.Rules.{Rule, Lawful}
use Rattle.runs.specs.Runs.{Ruled, last}
use Rattle.lists.specs.declared.call.Call.{Call}
use Rattle.lists.specs.declared.call.Call.TheVariants.{Pour, Draw, Settle, Step, Split, Merge}
use Rattle.lists.specs.declared.call.Entry.{Entry}
use Rattle.lists.specs.Lists.{call_of, calls_of, replies_of, work_after_call}

-- the result that replies so
abbrev pub result_of : Reply → Result ℕ Refusal
result_of (granted answer) = Ok answer
result_of (refused refusal) = Err refusal

pub result_is : (r : Result ℕ Refusal) (q : Reply) → replied r ≡ q → r ≡ result_of q
result_is (Ok a) q e = ap result_of e
result_is (Err a) q e = ap result_of e

replied_back : (q : Reply) → replied (result_of q) ≡ q
replied_back (granted a) = refl
replied_back (refused a) = refl

-- every step of a list goes by a rule that keeps the laws, where all values of A do
pub all_ruled : {A : Type 0} (meaning : A → Rule) (work : ℕ) → ((a : A) → Lawful (meaning a)) → (es : List (Entry A)) → AllByRecursion Ruled (calls_of meaning work es)
all_ruled meaning work law [] = tt
all_ruled {A = A} meaning work law (e ∷ es) = (ruled e.call, all_ruled meaning work law es)
  where
    ruled : (c : Call A) → Ruled (call_of meaning work c)
    ruled (Pour x y a) = tt
    ruled (Draw x y a) = tt
    ruled (Settle x y) = tt
    ruled (Step t r m) = law r
    ruled (Split x y) = tt
    ruled (Merge x y) = tt

module _ {A : Type 0} (meaning : A → Rule) (size : ℕ) where
  abbrev pub done : Entry A → Basin → Reply × Basin
  done e b = perform (call_of meaning size e.call) b

  abbrev pub answered : Entry A → Basin → Entry A
  answered e b = record { call = e.call; reply = result_of (done e b).0 }

  -- the first i calls performed: the entries, the basin and the work table
  abbrev pub served : ℕ → List (Entry A) → Basin → List (Entry A)
  served zero es b = es
  served (suc i) [] b = []
  served (suc i) (e ∷ es) b = answered e b ∷ served i es (done e b).1

  abbrev pub reached : ℕ → List (Entry A) → Basin → Basin
  reached zero es b = b
  reached (suc i) [] b = b
  reached (suc i) (e ∷ es) b = reached i es (done e b).1

  abbrev pub worked : ℕ → List (Entry A) → Basin → List Leaf → List Leaf
  worked zero es b w = w
  worked (suc i) [] b w = w
  worked (suc i) (e ∷ es) b w = worked i es (done e b).1 (work_after_call e.call (done e b).0 w)

  -- ---- one call more
  pub next_entry : (i : ℕ) (es : List (Entry A)) (b : Basin) (d : Entry A) → get_or (served i es b) i d ≡ get_or es i d
  next_entry zero es b d = refl
  next_entry (suc i) [] b d = refl
  next_entry (suc i) (e ∷ es) b d = next_entry i es (done e b).1 d

  pub serves : (i : ℕ) (es : List (Entry A)) (b : Basin) (d : Entry A) → i < length es
      → set (served i es b) i (answered (get_or es i d) (reached i es b)) ≡ served (suc i) es b
  serves i [] b d h = absurd (omega arith)
  serves zero (e ∷ es) b d h = refl
  serves (suc i) (e ∷ es) b d h = ap (λ rest. answered e b ∷ rest) (serves i es (done e b).1 d (omega arith))

  pub reaches : (i : ℕ) (es : List (Entry A)) (b : Basin) (d : Entry A) → i < length es → (done (get_or es i d) (reached i es b)).1 ≡ reached (suc i) es b
  reaches i [] b d h = absurd (omega arith)
  reaches zero (e ∷ es) b d h = refl
  reaches (suc i) (e ∷ es) b d h = reaches i es (done e b).1 d (omega arith)

  pub works : (i : ℕ) (es : List (Entry A)) (b : Basin) (d : Entry A) (w : List Leaf) → i < length es
      → work_after_call (get_or es i d).call (done (get_or es i d) (reached i es b)).0 (worked i es b w) ≡ worked (suc i) es b w
  works i [] b d w h = absurd (omega arith)
  works zero (e ∷ es) b d w h = refl
  works (suc i) (e ∷ es) b d w h = works i es (done e b).1 d _ (omega arith)

  -- once call i was performed on what the calls before it left
  pub record Next (i : ℕ) (es es' : List (Entry A)) (b b' : Basin) (w w' : List Leaf) : Type 0 where
    pub entries : es' ≡ served i es b
    pub basin : b' ≡ reached i es b
    pub work : w' ≡ worked i es b w

  pub steps_on : (i : ℕ) (es es' : List (Entry A)) (b b' : Basin) (w w' : List Leaf) → i < length es → Next i es es' b b' w w'
      → (e : Entry A) (r : Result ℕ Refusal) (b'' : Basin) (w'' : List Leaf) (k : ℕ) → k ≡ size
      → (replied r, b'') ≡ perform (call_of meaning k (get_or es' i e).call) b' → w'' ≡ work_after_call (get_or es' i e).call (replied r) w'
      → Next (i + 1) es (set es' i (record { call = (get_or es' i e).call; reply = r })) b b'' w w''
  steps_on i es es' b b' w w' h so e r b'' w'' k long did worked-on =
      let here : get_or es' i e ≡ get_or es i e = ap (λ xs. get_or xs i e) so.entries ∙ next_entry i es b e in
      let now : (replied r, b'') ≡ done (get_or es i e) (reached i es b) = did ∙ (λ t. perform (call_of meaning (long t) (here t).call) (so.basin t)) in
      let told : replied r ≡ (done (get_or es i e) (reached i es b)).0 = ap (λ q. q.0) now in
      let result : r ≡ result_of (done (get_or es i e) (reached i es b)).0 = result_is r _ told in
      rw (add-one i) (record {
        entries = (λ t. set (so.entries t) i (record { call = (here t).call; reply = result t })) ∙ serves i es b e h;
        basin = ap (λ q. q.1) now ∙ reaches i es b e h;
        work = worked-on ∙ (λ t. work_after_call (here t).call (told t) (so.work t)) ∙ works i es b e w h;
      })

  -- ---- all calls
  pub served_calls : (es : List (Entry A)) (b : Basin) → map (λ e. e.call) (served (length es) es b) ≡ map (λ e. e.call) es
  served_calls [] b = refl
  served_calls (e ∷ es) b = ap (λ cs. e.call ∷ cs) (served_calls es (done e b).1)

  pub served_replies : (es : List (Entry A)) (b : Basin) → replies_of (served (length es) es b) ≡ map (λ r. r.0) (run (calls_of meaning size es) b)
  served_replies [] b = refl
  served_replies (e ∷ es) b = cc (replied_back (done e b).0, served_replies es (done e b).1)

  pub reached_last : (es : List (Entry A)) (b : Basin) → reached (length es) es b ≡ last b (run (calls_of meaning size es) b)
  reached_last [] b = refl
  reached_last (e ∷ es) b = reached_last es (done e b).1
