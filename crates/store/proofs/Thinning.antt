-- Members of places: who is among them, and who goes.
use Rattle.std.proofs.Common.{◌≡◌, ◌∙◌, ◌<◌, ◌≤◌, ◌+◌, inl, inr, ℕ, zero, suc, ◌||◌, Bool, true, false, true≢false, not, List, [], ◌∷◌, ◌++◌, length, set, refl, sym, ap, subst, arith}
use Rattle.std.proofs.lemmas.Bool.{cases_lt, or_from, or_left, or_right}
use Rattle.std.proofs.lemmas.Option.{slice_get_past}
use Rattle.std.specs.Prelude.{Contains, None, Option, Some, filter, is_some, slice_get}
use Rattle.std.specs.List.{list_any}
use Rattle.store.specs.Slots.{AreFewer, AreThinned, IsDroppedAt, IsMemberAt, IsThinnedAt, Slots, kept, passes_at, passes_in}
use Rattle.derivations.specs.Lines.{Line}

-- ---- a test of the members

-- where a member passes
pub any_kept : (test : List Line → Bool) (slots : Slots) (place : ℕ) → passes_at test (slice_get slots place) ≡ true → list_any test (kept slots) ≡ true
any_kept test [] place e = absurd (true≢false (sym e))
any_kept test (None ∷ rest) zero e = absurd (true≢false (sym e))
any_kept test (None ∷ rest) (suc place) e = any_kept test rest place e
any_kept test (Some lines ∷ rest) zero e = or_left (test lines) (list_any test (kept rest)) e
any_kept test (Some lines ∷ rest) (suc place) e = or_right (test lines) (list_any test (kept rest)) (any_kept test rest place e)

-- where none does
pub none_kept : (test : List Line → Bool) (slots : Slots) → ((place : ℕ) → passes_at test (slice_get slots place) ≡ false) → list_any test (kept slots) ≡ false
none_kept test [] none = refl
none_kept test (None ∷ rest) none = none_kept test rest (λ place. none (suc place))
none_kept test (Some lines ∷ rest) none = or_from (test lines) (list_any test (kept rest)) (none 0) (none_kept test rest (λ place. none (suc place)))

-- a test of the slots, one by one
pub any_slots : (test : List Line → Bool) (slots : Slots) → list_any (passes_in test) slots ≡ list_any test (kept slots)
any_slots test [] = refl
any_slots test (None ∷ rest) = any_slots test rest
any_slots test (Some lines ∷ rest) = ap (λ b. test lines || b) (any_slots test rest)

-- a place passes only where a member stands
pub passes_none : (test : List Line → Bool) (slots : Slots) (place : ℕ) → ((lines : List Line) → IsMemberAt slots place lines → test lines ≡ false) → passes_at test (slice_get slots place) ≡ false
passes_none test [] place none = refl
passes_none test (None ∷ rest) zero none = refl
passes_none test (Some lines ∷ rest) zero none = none lines refl
passes_none test (slot ∷ rest) (suc place) none = passes_none test rest place none

-- a member that stands in a place is one of them
pub kept_contains : (slots : Slots) (place : ℕ) (lines : List Line) → IsMemberAt slots place lines → Contains (kept slots) lines
kept_contains [] place lines e = absurd (cc e)
kept_contains (None ∷ rest) zero lines e = absurd (cc e)
kept_contains (Some first ∷ rest) zero lines e = (let same : first ≡ lines = cc e in (0, omega arith, same))
kept_contains (None ∷ rest) (suc place) lines e = kept_contains rest place lines e
kept_contains (Some first ∷ rest) (suc place) lines e = let c = kept_contains rest place lines e in (suc c.0, omega (arith, c.1), c.2)

-- ---- members that come

pub kept_push : (slots : Slots) (lines : List Line) → kept (slots ++ Some lines ∷ []) ≡ kept slots ++ lines ∷ []
kept_push [] lines = refl
kept_push (None ∷ rest) lines = kept_push rest lines
kept_push (Some first ∷ rest) lines = ap (λ (l : List (List Line)). first ∷ l) (kept_push rest lines)

-- ---- members that go

pub AreThinned-same : (test : List Line → Bool) (slots : Slots) → AreThinned test slots slots
AreThinned-same test [] = tt
AreThinned-same test (slot ∷ rest) = (inl refl, AreThinned-same test rest)

pub AreThinned-set : (test : List Line → Bool) (old new : Slots) (place : ℕ) → AreThinned test old new → passes_at test (slice_get new place) ≡ true → AreThinned test old (set new place None)
AreThinned-set test [] [] place thinned e = absurd (true≢false (sym e))
AreThinned-set test [] (other ∷ news) place thinned e = absurd thinned
AreThinned-set test (slot ∷ olds) [] place thinned e = absurd thinned
AreThinned-set test (slot ∷ olds) (None ∷ news) zero thinned e = absurd (true≢false (sym e))
AreThinned-set test (slot ∷ olds) (Some lines ∷ news) zero thinned e = elim thinned.0 [
  | inl same ↦ (inr (refl, ap (passes_in test) (sym same) ∙ e), thinned.1)
  | inr gone ↦ (let none : Some lines ≡ None = gone.0 in absurd (cc none))
]
AreThinned-set test (slot ∷ olds) (other ∷ news) (suc place) thinned e = (thinned.0, AreThinned-set test olds news place thinned.1 e)

-- one place more
pub AreThinned-next : (test : List Line → Bool) (old mid new : Slots) (place : ℕ) → AreThinned test old mid → IsDroppedAt test place mid new → AreThinned test old new
AreThinned-next test old mid new place thinned dropped = elim dropped [
  | inl same ↦ subst (λ l. AreThinned test old l) (sym same) thinned
  | inr gone ↦ subst (λ l. AreThinned test old l) (sym gone.1) (AreThinned-set test old mid place thinned gone.0)
]

-- twice
pub AreThinned-join : (test : List Line → Bool) (old mid new : Slots) → AreThinned test old mid → AreThinned test mid new → AreThinned test old new
AreThinned-join test [] [] [] first then = tt
AreThinned-join test [] [] (other ∷ news) first then = absurd then
AreThinned-join test [] (slot ∷ mids) new first then = absurd first
AreThinned-join test (slot ∷ olds) [] new first then = absurd first
AreThinned-join test (slot ∷ olds) (half ∷ mids) [] first then = absurd then
AreThinned-join test (slot ∷ olds) (half ∷ mids) (other ∷ news) first then = (
  elim then.0 [
    | inl same ↦ subst (λ (o : Option (List Line)). IsThinnedAt test slot o) (sym same) first.0
    | inr gone ↦ elim first.0 [
      | inl before ↦ inr (gone.0, ap (passes_in test) (sym before) ∙ gone.1)
      | inr earlier ↦ inr (gone.0, earlier.1)
    ]
  ],
  AreThinned-join test olds mids news first.1 then.1,
)

-- each stands where it stood
pub AreFewer-thinned : (test : List Line → Bool) (old new : Slots) → AreThinned test old new → AreFewer old new
AreFewer-thinned test [] [] thinned place lines e = e
AreFewer-thinned test [] (other ∷ news) thinned place lines e = absurd thinned
AreFewer-thinned test (slot ∷ olds) [] thinned place lines e = absurd thinned
AreFewer-thinned test (slot ∷ olds) (other ∷ news) thinned zero lines e = elim thinned.0 [
  | inl same ↦ ap (λ (o : Option (List Line)). Some o) (sym same) ∙ e
  | inr gone ↦ (let none : other ≡ None = gone.0 in absurd (cc (none, e)))
]
AreFewer-thinned test (slot ∷ olds) (other ∷ news) thinned (suc place) lines e = AreFewer-thinned test olds news thinned.1 place lines e

-- where none is left that passes, all those have gone
pub kept_thinned : (test : List Line → Bool) (old new : Slots) → AreThinned test old new → ((place : ℕ) → passes_at test (slice_get new place) ≡ false) → kept new ≡ filter (λ lines. not (test lines)) (kept old)
kept_thinned test [] [] thinned none = refl
kept_thinned test [] (other ∷ news) thinned none = absurd thinned
kept_thinned test (slot ∷ olds) [] thinned none = absurd thinned
kept_thinned test (None ∷ olds) (other ∷ news) thinned none =
    let rest = kept_thinned test olds news thinned.1 (λ place. none (suc place)) in
    elim thinned.0 [ inl same ↦ rw same rest | inr gone ↦ absurd (true≢false (sym gone.1)) ]
kept_thinned test (Some lines ∷ olds) (other ∷ news) thinned none =
    let rest = kept_thinned test olds news thinned.1 (λ place. none (suc place)) in
    elim thinned.0 [
      | inl same ↦
          let fails : test lines ≡ false = ap (passes_in test) (sym same) ∙ none 0 in
          rw (same, fails) (ap (λ (l : List (List Line)). lines ∷ l) rest)
      | inr gone ↦ (let is : test lines ≡ true = gone.1 in let empty : other ≡ None = gone.0 in rw (empty, is) rest)
    ]

-- one member goes
pub count_set : (test : List Line → Bool) (slots : Slots) (place : ℕ) → passes_at test (slice_get slots place) ≡ true → length (kept (set slots place None)) + 1 ≡ length (kept slots)
count_set test [] place e = absurd (true≢false (sym e))
count_set test (None ∷ rest) zero e = absurd (true≢false (sym e))
count_set test (Some lines ∷ rest) zero e = omega arith
count_set test (None ∷ rest) (suc place) e = count_set test rest place e
count_set test (Some lines ∷ rest) (suc place) e = (let rec = count_set test rest place e in omega (arith, rec))

-- ---- empty places that go

pub kept_some : (slots : Slots) → kept (filter is_some slots) ≡ kept slots
kept_some [] = refl
kept_some (None ∷ rest) = kept_some rest
kept_some (Some lines ∷ rest) = ap (λ (l : List (List Line)). lines ∷ l) (kept_some rest)

-- ---- a place that becomes empty

pub passes_within : (test : List Line → Bool) (slots : Slots) (place : ℕ) → passes_at test (slice_get slots place) ≡ true → place < length slots
passes_within test [] place e = absurd (true≢false (sym e))
passes_within test (slot ∷ rest) zero e = omega arith
passes_within test (slot ∷ rest) (suc place) e = (let rec = passes_within test rest place e in omega arith)

pub fails_own : (test : List Line → Bool) (slots : Slots) (place : ℕ) → passes_at test (slice_get (set slots place None) place) ≡ false
fails_own test [] place = refl
fails_own test (slot ∷ rest) zero = refl
fails_own test (slot ∷ rest) (suc place) = fails_own test rest place

fails_set : (test : List Line → Bool) (slots : Slots) (place other : ℕ) → passes_at test (slice_get slots other) ≡ false → passes_at test (slice_get (set slots place None) other) ≡ false
fails_set test [] place other e = refl
fails_set test (slot ∷ rest) zero zero e = refl
fails_set test (slot ∷ rest) zero (suc other) e = e
fails_set test (slot ∷ rest) (suc place) zero e = e
fails_set test (slot ∷ rest) (suc place) (suc other) e = fails_set test rest place other e

-- what did not pass does not pass later
pub fails_next : (test : List Line → Bool) (old new : Slots) (place other : ℕ) → IsDroppedAt test place old new → passes_at test (slice_get old other) ≡ false → passes_at test (slice_get new other) ≡ false
fails_next test old new place other dropped fails = elim dropped [
  | inl same ↦ subst (λ l. passes_at test (slice_get l other) ≡ false) (sym same) fails
  | inr gone ↦ subst (λ l. passes_at test (slice_get l other) ≡ false) (sym gone.1) (fails_set test old place other fails)
]

-- of the first places one more does not pass
pub fails_below : (test : List Line → Bool) (old new : Slots) (place : ℕ) → IsDroppedAt test place old new → passes_at test (slice_get new place) ≡ false
    → ((k : ℕ) → k < place → passes_at test (slice_get old k) ≡ false) → (k : ℕ) → k < place + 1 → passes_at test (slice_get new k) ≡ false
fails_below test old new place dropped here below k lt = elim (cases_lt k place) [
  | inl before ↦ fails_next test old new place k dropped (below k before)
  | inr not_before ↦ (let same : k ≡ place = omega (arith, lt) in subst (λ j. passes_at test (slice_get new j) ≡ false) (sym same) here)
]

-- past the end nothing passes
pub fails_all : (test : List Line → Bool) (slots : Slots) (first : ℕ) → length slots ≤ first → ((k : ℕ) → k < first → passes_at test (slice_get slots k) ≡ false) → (k : ℕ) → passes_at test (slice_get slots k) ≡ false
fails_all test slots first le below k = elim (cases_lt k first) [
  | inl before ↦ below k before
  | inr past ↦ ap (passes_at test) (slice_get_past slots k (omega arith))
]
