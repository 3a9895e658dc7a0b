-- Texts that are judged one after another.
use Rattle.std.proofs.Common.{◌≡◌, ℕ, zero, suc, ◌+◌, ◌<◌, add-one, List, [], ◌∷◌, ◌++◌, take, drop, map, arith, length, Bool, true, false, ◌&&◌, if◌then◌else◌, Option, Some, None, Result, Ok, Err, refl, sym, ap, ◌∙◌, subst}
use Rattle.std.specs.List.{flat_map, list_all, slice_get}
use Rattle.std.proofs.lemmas.List.Concat.{flat_map-append}
use Rattle.wire.proofs.ItemLemmas.{take_one_more}
use Rattle.std.proofs.lemmas.List.Folds.{list_all-append}
use Rattle.std.proofs.lemmas.Bool.{and_right}
use Rattle.versions.specs.Refusals.{Refuses}
use Rattle.versions.specs.Words.{Text, is_name, is_requirement, is_version}
use Rattle.versions.specs.declared.refusal.Refusal.{Refusal}
use Rattle.versions.specs.declared.refusal.Refusal.TheVariants.{BadName, BadRequirement, BadVersion, NoMemory}
use Rattle.registry.specs.Needs.{names_of}
use Rattle.registry.specs.Requests as kept
use Rattle.registry.specs.Requests.{Wanted, request_refusal}
use Rattle.wire.specs.Requests.{checked, judged, locked_versions, requirements_of, unless_refused}
use Rattle.wire.specs.Locks.{judged_lock, lines_unless}
use Rattle.wire.specs.NamedShapes.{premise_requirements, requirement_of}
use Rattle.wire.specs.Shapes.{Request, check, resolve}
use Rattle.by_name.specs.NamedLines.{NamedCause, NamedLine}

-- where a test decides what was read, its refusal is the one that is said
pub refuses_by : {X Y : Type 0} (b : Bool) (x : X) (bad e : Refusal) (said : Result Y Refusal) → Refuses e (if b then Ok x else Err bad)
    → (b ≡ false → Refuses bad said) → Refuses e said
refuses_by b x bad NoMemory said was refuses = tt
refuses_by true x bad e said was refuses = absurd (cc)
refuses_by false x bad e said was refuses = let same : bad ≡ e = cc in subst (λ f. Refuses f said) same (refuses refl)

-- where a test decides what was read, it holds of what was read
pub given_by : {X : Type 0} (b : Bool) (x y : X) (bad : Refusal) → (if b then Ok x else Err bad) ≡ Ok y → (b ≡ true) × (y ≡ x)
given_by true x y bad is = (refl, cc)
given_by false x y bad is = absurd (cc)

module _ {A B : Type 0} (part : A → B) (test : B → Bool) where
  -- the test fails of all where it fails at one place
  pub fails_at : (xs : List A) (i : ℕ) (x : A) → slice_get xs i ≡ Some x → test (part x) ≡ false → list_all test (map part xs) ≡ false
  fails_at [] i x here bad = absurd (cc)
  fails_at (y ∷ xs) zero x here bad = let same : y ≡ x = cc in rw (same, bad) refl
  fails_at (y ∷ xs) (suc i) x here bad = rw (fails_at xs i x here bad) (and_right (test (part y)) false refl)

  next_suc : (xs : List A) (i : ℕ) (x : A) → slice_get xs i ≡ Some x → map part (take (suc i) xs) ≡ map part (take i xs) ++ part x ∷ []
  next_suc [] i x here = absurd (cc)
  next_suc (y ∷ xs) zero x here = let same : y ≡ x = cc in rw same refl
  next_suc (y ∷ xs) (suc i) x here = ap (λ l. part y ∷ l) (next_suc xs i x here)

  -- one more of a list
  pub take_next : (xs : List A) (i : ℕ) (x : A) → slice_get xs i ≡ Some x → map part (take (i + 1) xs) ≡ map part (take i xs) ++ part x ∷ []
  take_next xs i x here = rw add-one (next_suc xs i x here)

  -- the test holds of one more
  pub holds_more : (xs : List A) (i : ℕ) (x : A) → slice_get xs i ≡ Some x → list_all test (map part (take i xs)) ≡ true → test (part x) ≡ true
      → list_all test (map part (take (i + 1) xs)) ≡ true
  holds_more xs i x here before now = rw (take_next xs i x here, list_all-append, before, now) refl

-- the same where each gives a list
module _ {A B : Type 0} (parts : A → List B) (test : B → Bool) where
  pub fails_within : (xs : List A) (i : ℕ) (x : A) → slice_get xs i ≡ Some x → list_all test (parts x) ≡ false → list_all test (flat_map parts xs) ≡ false
  fails_within [] i x here bad = absurd (cc)
  fails_within (y ∷ xs) zero x here bad = let same : y ≡ x = cc in rw (same, list_all-append, bad) refl
  fails_within (y ∷ xs) (suc i) x here bad = rw (list_all-append, fails_within xs i x here bad) (and_right (list_all test (parts y)) false refl)

  pub holds_within : (xs : List A) (i : ℕ) (x : A) → slice_get xs i ≡ Some x → list_all test (flat_map parts (take i xs)) ≡ true → list_all test (parts x) ≡ true
      → list_all test (flat_map parts (take (i + 1) xs)) ≡ true
  holds_within xs i x here before now = rw (take_one_more xs i x here, flat_map-append, list_all-append, before, list_all-append, now) refl

-- what is left of a list after one more
pub drop_next : {A B : Type 0} (part : A → B) (xs : List A) (i : ℕ) (x : A) → slice_get xs i ≡ Some x → map part (drop i xs) ≡ part x ∷ map part (drop (i + 1) xs)
drop_next part xs i x here = rw add-one (next part xs i x here)
  where
    next : {A B : Type 0} (part : A → B) (xs : List A) (i : ℕ) (x : A) → slice_get xs i ≡ Some x → map part (drop i xs) ≡ part x ∷ map part (drop (suc i) xs)
    next part [] i x here = absurd (cc)
    next part (y ∷ xs) zero x here = let same : y ≡ x = cc in rw same refl
    next part (y ∷ xs) (suc i) x here = next part xs i x here

-- the pairs that were read so far: their names are taken, and the test holds of their other texts
pub record Read (test : Text → Bool) (pairs : List (Text × Text)) (left : List Text) (done : List (Text × Text)) (n : ℕ) : Type 0 where
  pub left_is : left ≡ names_of (drop n pairs)
  pub done_is : done ≡ take n pairs
  pub good : list_all test (map (λ (d : Text × Text). d.1) (take n pairs)) ≡ true

-- nothing is read yet
pub read_none : (test : Text → Bool) (pairs : List (Text × Text)) (left : List Text) (done : List (Text × Text)) (n : ℕ) → left ≡ names_of pairs → done ≡ [] → n ≡ 0 → Read test pairs left done n
read_none test pairs left done n all none start = rw (none, start) record { left_is = all; done_is = refl; good = refl }

-- where a name is left, so is its pair
pub read_within : (test : Text → Bool) (pairs : List (Text × Text)) (left later : List Text) (done : List (Text × Text)) (n : ℕ) (name : Text)
    → Read test pairs left done n → left ≡ name ∷ later → n < length pairs
read_within test pairs left later done n name before taken = within pairs n (sym before.left_is ∙ taken)
  where
    within : (ps : List (Text × Text)) (k : ℕ) → names_of (drop k ps) ≡ name ∷ later → k < length ps
    within [] zero is = absurd (cc)
    within [] (suc k) is = absurd (cc)
    within (p ∷ ps) zero is = omega arith
    within (p ∷ ps) (suc k) is = let rest = within ps k is in omega arith

-- one more pair is read
pub read_more : (test : Text → Bool) (pairs : List (Text × Text)) (left later : List Text) (done : List (Text × Text)) (n : ℕ) (name other : Text) (pair : Text × Text)
    → Read test pairs left done n → left ≡ name ∷ later → slice_get pairs n ≡ Some pair → other ≡ pair.1 → test pair.1 ≡ true
    → Read test pairs later (done ++ (name, other) ∷ []) (n + 1)
read_more test pairs left later done n name other pair before taken here kept good =
    let next = drop_next (λ (d : Text × Text). d.0) pairs n pair here in
    let first : name ∷ later ≡ pair.0 ∷ names_of (drop (n + 1) pairs) = sym taken ∙ before.left_is ∙ next in
    record {
      left_is = cc;
      done_is = let same : name ≡ pair.0 = cc in
          rw (same, kept) (ap (λ l. l ++ pair ∷ []) before.done_is ∙ sym (take_one_more pairs n pair here));
      good = holds_more (λ (d : Text × Text). d.1) test pairs n pair here before.good good;
    }

empty : (texts : List Text) → length texts ≡ 0 → texts ≡ []
empty [] none = refl
empty (text ∷ texts) none = absurd (omega (arith, none))

none_left : (pairs : List (Text × Text)) (n : ℕ) → names_of (drop n pairs) ≡ [] → take n pairs ≡ pairs
none_left [] zero none = refl
none_left [] (suc n) none = refl
none_left (pair ∷ pairs) zero none = absurd (cc)
none_left (pair ∷ pairs) (suc n) none = ap (λ l. pair ∷ l) (none_left pairs n none)

-- all pairs are read
pub read_all : (test : Text → Bool) (pairs : List (Text × Text)) (left : List Text) (done : List (Text × Text)) (n : ℕ) (bad : Refusal) → Read test pairs left done n → length left ≡ 0
    → checked (list_all test (map (λ (d : Text × Text). d.1) pairs)) pairs bad ≡ Ok done
read_all test pairs left done n bad before none =
    let all = none_left pairs n (sym before.left_is ∙ empty left none) in
    let good : list_all test (map (λ (d : Text × Text). d.1) pairs) ≡ true = ap (λ (l : List (Text × Text)). list_all test (map (λ (d : Text × Text). d.1) l)) (sym all) ∙ before.good in
    rw good (ap Ok (sym (before.done_is ∙ all)))

refuses_alike : (X Y : Type 0) (bad e : Refusal) → Refuses {Y = X} e (Err bad) → Refuses {Y = Y} e (Err bad)
refuses_alike X Y bad NoMemory refuses = tt
refuses_alike X Y bad e refuses = let same : bad ≡ e = cc in ap Err same

refuses_none : (X : Type 0) {Y : Type 0} (e : Refusal) (x : X) (said : Result Y Refusal) → Refuses {Y = X} e (Ok x) → Refuses e said
refuses_none X NoMemory x said refuses = tt
refuses_none X e x said refuses = absurd (cc)

-- the refusal of a yank's or an unyank's texts
pub refuses_marking : (named : Bool) (versioned : Bool) (marking : Text × Text) (request : Request) (e : Refusal)
    → Refuses e (if named then checked versioned marking BadVersion else Err BadName)
    → Refuses e (if named && true then (if versioned && true then checked true request BadRequirement else Err BadVersion) else Err BadName)
refuses_marking false versioned marking request e refuses = refuses_alike _ _ BadName e refuses
refuses_marking true false marking request e refuses = refuses_alike _ _ BadVersion e refuses
refuses_marking true true marking request e refuses = refuses_none _ e marking _ refuses

-- a yank or an unyank of texts that are as they should be
pub gives_marking : (named : Bool) (versioned : Bool) (marking given : Text × Text) (ask : Text × Text → Request)
    → (if named then checked versioned marking BadVersion else Err BadName) ≡ Ok given
    → (if named && true then (if versioned && true then checked true (ask marking) BadRequirement else Err BadVersion) else Err BadName) ≡ Ok (ask given)
gives_marking false versioned marking given ask is = absurd (cc)
gives_marking true false marking given ask is = absurd (cc)
gives_marking true true marking given ask is = let same : marking ≡ given = cc in ap (λ (p : Text × Text). Ok (ask p)) same

-- ---- the requests of resolve and check lines

-- the names of both lists are judged one list after the other
pub both_named : (needs lock : List (Text × Text)) → list_all is_name (names_of needs) ≡ true → list_all is_name (names_of lock) ≡ true
    → list_all is_name (names_of needs ++ names_of lock) ≡ true
both_named needs lock needed locked = rw (list_all-append, needed, locked) refl

-- a bad name among the needs
pub misnamed_needs : (needs lock : List (Text × Text)) → list_all is_name (names_of needs) ≡ false → list_all is_name (names_of needs ++ names_of lock) ≡ false
misnamed_needs needs lock bad = rw (list_all-append, bad) refl

-- a bad name among the lock lines
pub misnamed_lock : (needs lock : List (Text × Text)) → list_all is_name (names_of lock) ≡ false → list_all is_name (names_of needs ++ names_of lock) ≡ false
misnamed_lock needs lock bad = rw (list_all-append, bad) (and_right (list_all is_name (names_of needs)) false refl)

-- what a request is refused for, the line that asks it is
refuses_line : (ask : Wanted → Request) (wanted : Wanted) (refusal : Option Refusal) (e : Refusal) → Refuses e (kept.unless_refused refusal wanted) → Refuses e (unless_refused refusal (ask wanted))
refuses_line ask wanted None e refuses = refuses_none _ e wanted _ refuses
refuses_line ask wanted (Some bad) e refuses = refuses_alike _ _ bad e refuses

-- what a request is made of, its line asks
asks_line : (ask : Wanted → Request) (wanted made : Wanted) (refusal : Option Refusal) → kept.unless_refused refusal wanted ≡ Ok made → unless_refused refusal (ask wanted) ≡ Ok (ask made)
asks_line ask wanted made None is = let same : wanted ≡ made = cc in ap (λ (w : Wanted). Ok (ask w)) same
asks_line ask wanted made (Some bad) is = absurd (cc)

-- what needs and a lock ask for
abbrev pub wanted_of : List (Text × Text) → List (Text × Text) → Wanted
wanted_of needs lock = record { needs = needs; lock = lock }

-- ---- the lines of lock lists

-- what a request is refused for, its lock's lines are
refuses_lines : (refusal : Option Refusal) (wanted : Wanted) (lines : List (Text × Text)) (e : Refusal) → Refuses e (kept.unless_refused refusal wanted) → Refuses e (lines_unless refusal lines)
refuses_lines None wanted lines e refuses = refuses_none _ e wanted _ refuses
refuses_lines (Some bad) wanted lines e refuses = refuses_alike _ _ bad e refuses

-- of the request that is made the lock has the lines
gives_lines : (refusal : Option Refusal) (wanted made : Wanted) → kept.unless_refused refusal wanted ≡ Ok made → lines_unless refusal wanted.lock ≡ Ok made.lock
gives_lines None wanted made is = let same : wanted ≡ made = cc in ap (λ (w : Wanted). Ok w.lock) same
gives_lines (Some bad) wanted made is = absurd (cc)

module _ (lock kept_needs kept_lock : List (Text × Text)) (named : list_all is_name (names_of lock) ≡ true) (versioned : list_all is_version (locked_versions lock) ≡ true)
    (nothing : kept_needs ≡ []) (same : kept_lock ≡ lock) where
  read_as : (P : Result Wanted Refusal → Type 0) → P (kept.request_in kept_needs kept_lock) → P (kept.request_in [] lock)
  read_as P h = subst (λ (l : List (Text × Text)). P (kept.request_in l lock)) nothing (subst (λ (l : List (Text × Text)). P (kept.request_in kept_needs l)) same h)

  -- the request that needs nothing, of what was read of these texts, is refused
  pub refuses_lock : (e : Refusal) → Refuses e (kept.request_in kept_needs kept_lock) → Refuses e (judged_lock lock)
  refuses_lock e refuses = rw (named, versioned) (refuses_lines (request_refusal (wanted_of [] lock)) (wanted_of [] lock) lock e (read_as (λ said. Refuses e said) refuses))

  -- or it is made
  pub gives_lock : (made : Wanted) → kept.request_in kept_needs kept_lock ≡ Ok made → judged_lock lock ≡ Ok made.lock
  gives_lock made is = rw (named, versioned) (gives_lines (request_refusal (wanted_of [] lock)) (wanted_of [] lock) made (read_as (λ said. said ≡ Ok made) is))

-- the texts of needs and a lock are names, versions and requirements
pub record AreTexts (needs lock : List (Text × Text)) : Type 0 where
  pub named : list_all is_name (names_of needs ++ names_of lock) ≡ true
  pub versioned : list_all is_version (locked_versions lock) ≡ true
  pub required : list_all is_requirement (requirements_of needs) ≡ true

-- the line that asks for them is judged as its request is
abbrev pub IsJudged : (Wanted → Request) → List (Text × Text) → List (Text × Text) → Type 0
IsJudged ask needs lock = judged (ask (wanted_of needs lock)) ≡ unless_refused (request_refusal (wanted_of needs lock)) (ask (wanted_of needs lock))

-- a resolve line is
pub judged_resolution : (needs lock : List (Text × Text)) (explain : Bool) (budget : Option ℕ) → AreTexts needs lock → IsJudged (λ wanted. resolve wanted explain budget) needs lock
judged_resolution needs lock explain budget texts = rw (texts.named, texts.versioned, texts.required) refl

-- a check line is, where the requirements of its derivation are such
pub judged_checking : (needs lock : List (Text × Text)) (lines : List NamedLine) → AreTexts needs lock → list_all is_requirement (premise_requirements lines) ≡ true
    → IsJudged (λ wanted. check wanted lines) needs lock
judged_checking needs lock lines texts derived =
    let both : list_all is_requirement (requirements_of needs ++ premise_requirements lines) ≡ true = rw (list_all-append, texts.required, derived) refl in
    rw (texts.named, texts.versioned, both) refl

-- a bad requirement among the needs
pub unrequired_needs : (needs : List (Text × Text)) (lines : List NamedLine) → list_all is_requirement (requirements_of needs) ≡ false
    → list_all is_requirement (requirements_of needs ++ premise_requirements lines) ≡ false
unrequired_needs needs lines bad = rw (list_all-append, bad) refl

-- a bad requirement among the premises
pub unrequired_lines : (needs : List (Text × Text)) (lines : List NamedLine) → list_all is_requirement (premise_requirements lines) ≡ false
    → list_all is_requirement (requirements_of needs ++ premise_requirements lines) ≡ false
unrequired_lines needs lines bad = rw (list_all-append, bad) (and_right (list_all is_requirement (requirements_of needs)) false refl)

-- a bad requirement of the first of two causes
pub unrequired_one : (one two : NamedCause) → list_all is_requirement (requirement_of one) ≡ false → list_all is_requirement (requirement_of one ++ requirement_of two) ≡ false
unrequired_one one two bad = rw (list_all-append, bad) refl

-- a bad requirement of the second
pub unrequired_two : (one two : NamedCause) → list_all is_requirement (requirement_of two) ≡ false → list_all is_requirement (requirement_of one ++ requirement_of two) ≡ false
unrequired_two one two bad = rw (list_all-append, bad) (and_right (list_all is_requirement (requirement_of one)) false refl)

-- the requirements of both
pub good_causes : (one two : NamedCause) → list_all is_requirement (requirement_of one) ≡ true → list_all is_requirement (requirement_of two) ≡ true
    → list_all is_requirement (requirement_of one ++ requirement_of two) ≡ true
good_causes one two first second = rw (list_all-append, first, second) refl

module _ (ask : Wanted → Request) (needs lock kept_needs kept_lock : List (Text × Text)) (is_judged : IsJudged ask needs lock) (same_needs : kept_needs ≡ needs) (same_lock : kept_lock ≡ lock) where
  -- the request, of what was read of these texts, is refused
  pub refuses_judged : (e : Refusal) → Refuses e (kept.request_in kept_needs kept_lock) → Refuses e (judged (ask (wanted_of needs lock)))
  refuses_judged e refuses =
      let of_needs : Refuses e (kept.request_in needs kept_lock) = subst (λ (l : List (Text × Text)). Refuses e (kept.request_in l kept_lock)) same_needs refuses in
      let of_both : Refuses e (kept.request_in needs lock) = subst (λ (l : List (Text × Text)). Refuses e (kept.request_in needs l)) same_lock of_needs in
      subst (λ (said : Result Request Refusal). Refuses e said) (sym is_judged) (refuses_line ask (wanted_of needs lock) (request_refusal (wanted_of needs lock)) e of_both)

  -- or it is made
  pub asks_judged : (made : Wanted) → kept.request_in kept_needs kept_lock ≡ Ok made → judged (ask (wanted_of needs lock)) ≡ Ok (ask made)
  asks_judged made is =
      let of_needs : kept.request_in needs kept_lock ≡ Ok made = subst (λ (l : List (Text × Text)). kept.request_in l kept_lock ≡ Ok made) same_needs is in
      let of_both : kept.request_in needs lock ≡ Ok made = subst (λ (l : List (Text × Text)). kept.request_in needs l ≡ Ok made) same_lock of_needs in
      is_judged ∙ asks_line ask (wanted_of needs lock) made (request_refusal (wanted_of needs lock)) of_both
