-- What a table of terms by package keeps, and what a step does to it.
use Rattle.std.proofs.Common.{◌≡◌, ◌∙◌, ◌+◌, ◌<◌, inl, inr, ℕ, zero, suc, List, [], ◌∷◌, ◌++◌, length, take, drop, refl, sym, ap, subst, append_assoc, arith, get_or, Bool, true, false, ◌&&◌, ◌||◌, true≢false, nat_eq, if◌then◌else◌}
use Rattle.std.proofs.lemmas.Bool.{cases_Bool, eq-eqb, eqb-true, ne_eqb}
use Rattle.std.proofs.lemmas.List.{append-nil, drop_more}
use Rattle.std.proofs.lemmas.Option.{get_or_from_slice_get, none-some, same_Some}
use Rattle.std.specs.Prelude.{Option, None, Some, slice_get, slice_set}
use Rattle.terms.specs.Fronts.{true_where}
use Rattle.terms.specs.Incompats.{Follows, OrderedFrom, has_term, term_on, true_at}
use Rattle.terms.specs.Terms.{CanBeFalse, true_of}
use Rattle.terms.specs.declared.term.Term.{Term}
use Rattle.terms.specs.declared.term.Term.TheVariants.{In, NotIn}
use Rattle.derivations.specs.Facts.{Terms}
use Rattle.checker.specs.Tables.{AreAnded, AreOnce, ArePlaced, Concludes, IsAnded, IsAt, IsOred, SaysNothing, SaysSame, SaysSomething, is_always, without_always}
use Rattle.checker.proofs.Lists.{get-set-other, get-set-same}

-- ---- numbers and tests

nat_eq-flip : (a b : ℕ) → nat_eq a b ≡ nat_eq b a
nat_eq-flip a b = elim (cases_Bool (nat_eq a b)) [
  | inl e ↦ subst (λ c. nat_eq a c ≡ nat_eq c a) (eqb-true a b e) refl
  | inr e ↦ e ∙ sym (ne_eqb b a (λ h. true≢false (sym (eq-eqb a a refl) ∙ subst (λ c. nat_eq a c ≡ false) h e)))
]

and-true : (a : Bool) → (a && true) ≡ a
and-true true = refl
and-true false = refl

or-true : (a : Bool) → (a || true) ≡ true
or-true true = refl
or-true false = refl

all-outside-none : (choice : Option ℕ) → true_of (NotIn []) choice ≡ true
all-outside-none None = refl
all-outside-none (Some k) = refl

-- what always holds holds where something or what always holds does
pub either-always : (term : Term) (choice : Option ℕ) → true_of (NotIn []) choice ≡ (true_of term choice || true)
either-always term choice = all-outside-none choice ∙ sym (or-true (true_of term choice))

-- what is left behind the item at a place
pub drop-item : {A : Type 0} (xs : List A) (i : ℕ) (x : A) → i < length xs → x ≡ get_or xs i x → drop i xs ≡ x ∷ drop (i + 1) xs
drop-item xs i x lt is = drop_more xs i x lt ∙ ap (λ y. y ∷ drop (i + 1) xs) (sym is)

-- ---- the term on a package

true_at-none : (terms : Terms) (pkg : ℕ) (choice : Option ℕ) → has_term terms pkg ≡ false → true_at terms pkg choice ≡ true
true_at-none [] pkg choice h = refl
true_at-none (t ∷ rest) pkg choice h = elim (cases_Bool (nat_eq t.0 pkg)) [
  | inl e ↦ absurd (true≢false (rw e at h))
  | inr e ↦ rw e (true_at-none rest pkg choice (rw e at h))
]

true_at-term_on : (terms : Terms) (pkg : ℕ) (choice : Option ℕ) → true_at terms pkg choice ≡ true_where (term_on terms pkg) choice
true_at-term_on [] pkg choice = refl
true_at-term_on (t ∷ rest) pkg choice = elim (cases_Bool (nat_eq t.0 pkg)) [
  | inl e ↦ rw e refl
  | inr e ↦ rw e (true_at-term_on rest pkg choice)
]

pub has_term-there : (terms : Terms) (i pkg : ℕ) (term : Term) → slice_get terms i ≡ Some (pkg, term) → has_term terms pkg ≡ true
has_term-there [] i pkg term at = absurd (none-some (pkg, term) at)
has_term-there (t ∷ rest) zero pkg term at =
    let same : nat_eq t.0 pkg ≡ true = subst (λ (u : ℕ × Term). nat_eq u.0 pkg ≡ true) (sym (same_Some t (pkg, term) at)) (eq-eqb pkg pkg refl) in
    rw same refl
has_term-there (t ∷ rest) (suc i) pkg term at = elim (cases_Bool (nat_eq t.0 pkg)) [
  | inl e ↦ rw e refl
  | inr e ↦ rw e (has_term-there rest i pkg term at)
]

-- another package has its term behind the first, on which nothing behind it is
apart : (t : ℕ × Term) (rest : Terms) (i pkg : ℕ) (term : Term) → has_term rest t.0 ≡ false → slice_get rest i ≡ Some (pkg, term) → nat_eq t.0 pkg ≡ false
apart t rest i pkg term none at = ne_eqb t.0 pkg (λ e. true≢false (sym (has_term-there rest i pkg term at) ∙ subst (λ p. has_term rest p ≡ false) e none))

-- ---- places

-- where the term on a package stands, and that its place is kept
pub record IsThere (n : ℕ) (places : List ℕ) (terms : Terms) (pkg : ℕ) : Type 0 where
  pub index : ℕ
  pub term : Term
  pub number : ℕ
  pub at : slice_get terms index ≡ Some (pkg, term)
  pub counted : number ≡ n + index
  pub placed : slice_get places pkg ≡ Some number

pub there : (n : ℕ) (places : List ℕ) (terms : Terms) (pkg : ℕ) → ArePlaced n places terms → has_term terms pkg ≡ true → IsThere n places terms pkg
there n places [] pkg h has = absurd (true≢false (sym has))
there n places (t ∷ rest) pkg h has = elim (cases_Bool (nat_eq t.0 pkg)) [
  | inl e ↦ record {
    index = 0;
    term = t.1;
    number = n;
    at = subst (λ p. slice_get (t ∷ rest) 0 ≡ Some (p, t.1)) (eqb-true t.0 pkg e) refl;
    counted = omega arith;
    placed = subst (λ p. slice_get places p ≡ Some n) (eqb-true t.0 pkg e) h.0;
  }
  | inr e ↦ let r = there (suc n) places rest pkg h.1 (rw e at has) in
      record { index = suc r.index; term = r.term; number = r.number; at = r.at; counted = omega (arith, r.counted); placed = r.placed }
]

-- where no place is kept that has a term on the package, there is none
pub no-place : (places : List ℕ) (terms : Terms) (pkg : ℕ) → ArePlaced 0 places terms → slice_get places pkg ≡ None → has_term terms pkg ≡ false
no-place places terms pkg h past = elim (cases_Bool (has_term terms pkg)) [
  | inl e ↦ let w = there 0 places terms pkg h e in absurd (none-some w.number (sym past ∙ w.placed))
  | inr e ↦ e
]

at-place : (places : List ℕ) (terms : Terms) (pkg place : ℕ) → IsThere 0 places terms pkg → slice_get places pkg ≡ Some place → (term : Term) × (slice_get terms place ≡ Some (pkg, term))
at-place places terms pkg place w kept =
    let same : place ≡ w.number = same_Some place w.number (sym kept ∙ w.placed) in
    let here : w.index ≡ place = omega (arith, same, w.counted) in
    (w.term, subst (λ i. slice_get terms i ≡ Some (pkg, w.term)) here w.at)

pub none-there : (places : List ℕ) (terms : Terms) (pkg place : ℕ) → ArePlaced 0 places terms → slice_get places pkg ≡ Some place → slice_get terms place ≡ None → has_term terms pkg ≡ false
none-there places terms pkg place h kept past = elim (cases_Bool (has_term terms pkg)) [
  | inl e ↦ let w = at-place places terms pkg place (there 0 places terms pkg h e) kept in absurd (none-some (pkg, w.0) (sym past ∙ w.1))
  | inr e ↦ e
]

pub other-there : (places : List ℕ) (terms : Terms) (pkg place : ℕ) (entry : ℕ × Term) → ArePlaced 0 places terms → slice_get places pkg ≡ Some place → slice_get terms place ≡ Some entry → (entry.0 ≡ pkg → ⊥) → has_term terms pkg ≡ false
other-there places terms pkg place entry h kept at other = elim (cases_Bool (has_term terms pkg)) [
  | inl e ↦
      let w = at-place places terms pkg place (there 0 places terms pkg h e) kept in
      let same : entry ≡ (pkg, w.0) = same_Some entry (pkg, w.0) (sym at ∙ w.1) in
      absurd (other (ap (λ (t : ℕ × Term). t.0) same))
  | inr e ↦ e
]

pub once-placed : (n : ℕ) (places : List ℕ) (terms : Terms) → ArePlaced n places terms → AreOnce terms
once-placed n places [] h = tt
once-placed n places (t ∷ rest) h = (none, once-placed (suc n) places rest h.1)
  where
    none : has_term rest t.0 ≡ false
    none = elim (cases_Bool (has_term rest t.0)) [
      | inl e ↦ let r = there (suc n) places rest t.0 h.1 e in
          let same : n ≡ r.number = same_Some n r.number (sym h.0 ∙ r.placed) in
          absurd (omega (arith, same, r.counted))
      | inr e ↦ e
    ]

pub placed-push : (n : ℕ) (places : List ℕ) (terms : Terms) (pkg place : ℕ) (term : Term) → ArePlaced n places terms → has_term terms pkg ≡ false → pkg < length places → place ≡ n + length terms
    → ArePlaced n (slice_set places pkg place) (terms ++ (pkg, term) ∷ [])
placed-push n places [] pkg place term h none lt here = (get-set-same places pkg place lt ∙ ap Some (omega (arith, here)), tt)
placed-push n places (t ∷ rest) pkg place term h none lt here = elim (cases_Bool (nat_eq t.0 pkg)) [
  | inl e ↦ absurd (true≢false (rw e at none))
  | inr e ↦ (
    get-set-other places pkg t.0 place (λ same. true≢false (sym (eq-eqb t.0 t.0 refl) ∙ subst (λ p. nat_eq t.0 p ≡ false) same e)) ∙ h.0,
    placed-push (suc n) places rest pkg place term h.1 (rw e at none) lt (omega (arith, here)),
  )
]

pub placed-set : (n : ℕ) (places : List ℕ) (terms : Terms) (i pkg : ℕ) (old new : Term) → ArePlaced n places terms → slice_get terms i ≡ Some (pkg, old) → ArePlaced n places (slice_set terms i (pkg, new))
placed-set n places [] i pkg old new h at = tt
placed-set n places (t ∷ rest) zero pkg old new h at =
    (subst (λ (u : ℕ × Term). slice_get places u.0 ≡ Some n) (same_Some t (pkg, old) at) h.0, h.1)
placed-set n places (t ∷ rest) (suc i) pkg old new h at = (h.0, placed-set (suc n) places rest i pkg old new h.1 at)

-- the term that is read at a place of the table
pub record IsRead (terms : Terms) (pkg place : ℕ) (entry : ℕ × Term) : Type 0 where
  pub term : Term
  pub same : entry ≡ (pkg, term)
  pub at : slice_get terms place ≡ Some (pkg, term)
  pub once : AreOnce terms

pub is_read : (places : List ℕ) (inside seen terms : Terms) (pkg place : ℕ) (entry : ℕ × Term) → ArePlaced 0 places inside → inside ≡ terms → seen ≡ inside → IsAt seen pkg place → entry ≡ get_or inside place entry → IsRead terms pkg place entry
is_read places inside seen terms pkg place entry placed view value there read =
    let inner : IsAt inside pkg place = subst (λ (ts : Terms). IsAt ts pkg place) value there in
    record {
      term = inner.0;
      same = read ∙ get_or_from_slice_get inside place (pkg, inner.0) entry inner.1;
      at = subst (λ (ts : Terms). slice_get ts place ≡ Some (pkg, inner.0)) view inner.1;
      once = subst (λ (ts : Terms). AreOnce ts) view (once-placed 0 places inside placed);
    }

-- ---- what a table says once a term is put into it

true_at-push : (terms : Terms) (pkg p : ℕ) (term : Term) (choice : Option ℕ) → has_term terms pkg ≡ false
    → true_at (terms ++ (pkg, term) ∷ []) p choice ≡ (if nat_eq pkg p then true_of term choice else true_at terms p choice)
true_at-push [] pkg p term choice none = refl
true_at-push (t ∷ rest) pkg p term choice none = elim (cases_Bool (nat_eq t.0 p)) [
  | inl e ↦
      let other : nat_eq pkg p ≡ false = elim (cases_Bool (nat_eq pkg p)) [
        | inl same ↦
            let first : nat_eq t.0 pkg ≡ true = subst (λ q. nat_eq t.0 q ≡ true) (sym (eqb-true pkg p same)) e in
            absurd (true≢false (rw first at none))
        | inr ne ↦ ne
      ] in
      rw (e, other) refl
  | inr e ↦ rw e (true_at-push rest pkg p term choice (elim (cases_Bool (nat_eq t.0 pkg)) [
    | inl same ↦ absurd (true≢false (rw same at none))
    | inr ne ↦ rw ne at none
  ]))
]

true_at-set : (terms : Terms) (i pkg p : ℕ) (old new : Term) (choice : Option ℕ) → AreOnce terms → slice_get terms i ≡ Some (pkg, old)
    → true_at (slice_set terms i (pkg, new)) p choice ≡ (if nat_eq pkg p then true_of new choice else true_at terms p choice)
true_at-set [] i pkg p old new choice once at = absurd (none-some (pkg, old) at)
true_at-set (t ∷ rest) zero pkg p old new choice once at = elim (cases_Bool (nat_eq pkg p)) [
  | inl e ↦ rw e refl
  | inr e ↦
      let same : nat_eq t.0 p ≡ false = subst (λ (u : ℕ × Term). nat_eq u.0 p ≡ false) (sym (same_Some t (pkg, old) at)) e in
      rw (e, same) refl
]
true_at-set (t ∷ rest) (suc i) pkg p old new choice once at = elim (cases_Bool (nat_eq t.0 p)) [
  | inl e ↦
      let ne = apart t rest i pkg old once.0 at in
      let other : nat_eq pkg p ≡ false = subst (λ q. nat_eq pkg q ≡ false) (eqb-true t.0 p e) (nat_eq-flip pkg t.0 ∙ ne) in
      rw (e, other) refl
  | inr e ↦ rw e (true_at-set rest i pkg p old new choice once.1 at)
]

true_at-there : (terms : Terms) (i pkg : ℕ) (term : Term) (choice : Option ℕ) → AreOnce terms → slice_get terms i ≡ Some (pkg, term) → true_at terms pkg choice ≡ true_of term choice
true_at-there [] i pkg term choice once at = absurd (none-some (pkg, term) at)
true_at-there (t ∷ rest) zero pkg term choice once at =
    subst (λ (u : ℕ × Term). true_at (u ∷ rest) pkg choice ≡ true_of term choice) (sym (same_Some t (pkg, term) at)) (rw (eq-eqb pkg pkg refl) refl)
true_at-there (t ∷ rest) (suc i) pkg term choice once at = rw (apart t rest i pkg term once.0 at) (true_at-there rest i pkg term choice once.1 at)

-- ---- what is said of a package

-- a term that is not always true can be false
can_be_false : (term : Term) → is_always term ≡ false → CanBeFalse term
can_be_false (In set) h = (None, refl)
can_be_false (NotIn []) h = absurd (true≢false h)
can_be_false (NotIn (k ∷ rest)) h = (Some k, rw (eq-eqb k k refl) refl)

-- and one that is holds of each choice
always_holds : (term : Term) → is_always term ≡ true → (choice : Option ℕ) → true_of term choice ≡ true
always_holds (In set) h choice = absurd (true≢false (sym h))
always_holds (NotIn []) h choice = all-outside-none choice
always_holds (NotIn (k ∷ rest)) h choice = absurd (true≢false (sym h))

no_always : (term : Term) → CanBeFalse term → is_always term ≡ false
no_always term h = elim (cases_Bool (is_always term)) [
  | inl e ↦ absurd (true≢false (sym (always_holds term e h.0) ∙ h.1))
  | inr e ↦ e
]

-- an incompatibility has no term that always holds
pub without_always-ordered : (low : ℕ) (terms : Terms) → OrderedFrom low terms → without_always terms ≡ terms
without_always-ordered low [] h = refl
without_always-ordered low (t ∷ rest) h = rw (no_always t.1 h.1) (ap (λ (left : Terms). t ∷ left) (without_always-ordered (suc t.0) rest h.2))

-- nothing is said where there is no term, or one that always holds
pub says-nothing-none : (terms : Terms) (pkg : ℕ) → has_term terms pkg ≡ false → SaysNothing terms pkg
says-nothing-none terms pkg none choice = true_at-none terms pkg choice none

pub says-nothing-always : (terms : Terms) (pkg place : ℕ) (term : Term) → AreOnce terms → slice_get terms place ≡ Some (pkg, term) → is_always term ≡ true → SaysNothing terms pkg
says-nothing-always terms pkg place term once at always choice = true_at-there terms place pkg term choice once at ∙ always_holds term always choice

-- something is said where there is another term
pub says-something : (terms : Terms) (pkg place : ℕ) (term : Term) → AreOnce terms → slice_get terms place ≡ Some (pkg, term) → is_always term ≡ false → SaysSomething terms pkg
says-something terms pkg place term once at some =
    let false_there = can_be_false term some in
    (false_there.0, true_at-there terms place pkg term false_there.0 once at ∙ false_there.1)

-- ---- both, and one of both

pub and-push : (terms : Terms) (pkg : ℕ) (term : Term) → has_term terms pkg ≡ false → IsAnded terms (terms ++ (pkg, term) ∷ []) pkg term
and-push terms pkg term none p choice = true_at-push terms pkg p term choice none ∙ elim (cases_Bool (nat_eq pkg p)) [
  | inl e ↦
      let nothing : true_at terms p choice ≡ true = true_at-none terms p choice (subst (λ q. has_term terms q ≡ false) (eqb-true pkg p e) none) in
      rw (e, nothing) refl
  | inr e ↦ rw e refl
]

pub and-set : (terms : Terms) (i pkg : ℕ) (old new term : Term) → AreOnce terms → slice_get terms i ≡ Some (pkg, old) → ((choice : Option ℕ) → true_of new choice ≡ (true_of old choice && true_of term choice))
    → IsAnded terms (slice_set terms i (pkg, new)) pkg term
and-set terms i pkg old new term once at both p choice = true_at-set terms i pkg p old new choice once at ∙ elim (cases_Bool (nat_eq pkg p)) [
  | inl e ↦
      let here : true_at terms p choice ≡ true_of old choice = subst (λ q. true_at terms q choice ≡ true_of old choice) (eqb-true pkg p e) (true_at-there terms i pkg old choice once at) in
      rw (e, here) (both choice)
  | inr e ↦ rw e refl
]

narrower : (a b : Bool) → (a ≡ true → b ≡ true) → a ≡ (a && b)
narrower true b h = sym (h refl)
narrower false b h = refl

-- what is said of the package says as much already
pub and-implied : (terms : Terms) (i pkg : ℕ) (old term : Term) → AreOnce terms → slice_get terms i ≡ Some (pkg, old) → ((choice : Option ℕ) → true_of old choice ≡ true → true_of term choice ≡ true)
    → IsAnded terms terms pkg term
and-implied terms i pkg old term once at implies p choice = elim (cases_Bool (nat_eq pkg p)) [
  | inl e ↦
      let here : true_at terms p choice ≡ true_of old choice = subst (λ q. true_at terms q choice ≡ true_of old choice) (eqb-true pkg p e) (true_at-there terms i pkg old choice once at) in
      rw (e, here) (narrower (true_of old choice) (true_of term choice) (implies choice))
  | inr e ↦ rw e refl
]

pub or-set : (terms : Terms) (i pkg : ℕ) (old new : Term) (other : Option Term) → AreOnce terms → slice_get terms i ≡ Some (pkg, old) → ((choice : Option ℕ) → true_of new choice ≡ (true_of old choice || true_where other choice))
    → IsOred terms (slice_set terms i (pkg, new)) pkg other
or-set terms i pkg old new other once at either p choice = true_at-set terms i pkg p old new choice once at ∙ elim (cases_Bool (nat_eq pkg p)) [
  | inl e ↦
      let here : true_at terms p choice ≡ true_of old choice = subst (λ q. true_at terms q choice ≡ true_of old choice) (eqb-true pkg p e) (true_at-there terms i pkg old choice once at) in
      rw (e, here) (either choice)
  | inr e ↦ rw e refl
]

-- ---- a cause is joined term by term

-- what the table says, with what is left of the cause, is what the old table says with the whole cause; of the pivot it says what it did
pub record IsJoining (old now cause rest : Terms) (pivot : ℕ) : Type 0 where
  pub once : AreOnce rest
  pub elsewhere : (p : ℕ) (choice : Option ℕ) → nat_eq p pivot ≡ false → (true_at now p choice && true_at rest p choice) ≡ (true_at old p choice && true_at cause p choice)
  pub here : (p : ℕ) (choice : Option ℕ) → nat_eq p pivot ≡ true → true_at now p choice ≡ true_at old p choice

-- the pivot's term is passed over
pub joining-past : (old now cause rest : Terms) (pivot pkg : ℕ) (term : Term) → nat_eq pkg pivot ≡ true → IsJoining old now cause ((pkg, term) ∷ rest) pivot → IsJoining old now cause rest pivot
joining-past old now cause rest pivot pkg term on h = record {
  once = h.once.1;
  elsewhere = λ p choice ne.
      let other : nat_eq pkg p ≡ false = subst (λ q. nat_eq q p ≡ false) (sym (eqb-true pkg pivot on)) (nat_eq-flip pivot p ∙ ne) in
      rw other at (h.elsewhere p choice ne);
  here = h.here;
}

pub joining-step : (old now new cause rest : Terms) (pivot pkg : ℕ) (term : Term) → nat_eq pkg pivot ≡ false → IsAnded now new pkg term → IsJoining old now cause ((pkg, term) ∷ rest) pivot → IsJoining old new cause rest pivot
joining-step old now new cause rest pivot pkg term off anded h = record {
  once = h.once.1;
  elsewhere = λ p choice ne. elim (cases_Bool (nat_eq pkg p)) [
    | inl e ↦
        let nothing : true_at rest p choice ≡ true = true_at-none rest p choice (subst (λ q. has_term rest q ≡ false) (eqb-true pkg p e) h.once.0) in
        let one : true_at new p choice ≡ (true_at now p choice && true_of term choice) = rw e at (anded p choice) in
        let two : (true_at now p choice && true_of term choice) ≡ (true_at old p choice && true_at cause p choice) = rw e at (h.elsewhere p choice ne) in
        rw nothing (and-true (true_at new p choice) ∙ one ∙ two)
    | inr e ↦
        let one : true_at new p choice ≡ true_at now p choice = rw e at (anded p choice) in
        let two : (true_at now p choice && true_at rest p choice) ≡ (true_at old p choice && true_at cause p choice) = rw e at (h.elsewhere p choice ne) in
        rw one two
  ];
  here = λ p choice on.
      let other : nat_eq pkg p ≡ false = subst (λ q. nat_eq pkg q ≡ false) (sym (eqb-true p pivot on)) off in
      let one : true_at new p choice ≡ true_at now p choice = rw other at (anded p choice) in
      one ∙ h.here p choice on;
}

-- one of both on the pivot, and then both elsewhere
pub follows-joined : (old between new cause : Terms) (pivot : ℕ) → IsOred old between pivot (term_on cause pivot) → AreAnded between new cause pivot → Follows new old cause pivot
follows-joined old between new cause pivot either both p choice = elim (cases_Bool (nat_eq p pivot)) [
  | inl e ↦
      let one : true_at new p choice ≡ true_at between p choice = rw e at (both p choice) in
      let two : true_at between p choice ≡ (true_at old p choice || true_where (term_on cause pivot) choice) = rw (nat_eq-flip pivot p ∙ e) at (either p choice) in
      let three : true_where (term_on cause pivot) choice ≡ true_at cause p choice = sym (subst (λ q. true_at cause p choice ≡ true_where (term_on cause q) choice) (eqb-true p pivot e) (true_at-term_on cause p choice)) in
      rw e (one ∙ two ∙ ap (λ b. true_at old p choice || b) three)
  | inr e ↦
      let one : true_at new p choice ≡ (true_at between p choice && true_at cause p choice) = rw e at (both p choice) in
      let two : true_at between p choice ≡ true_at old p choice = rw (nat_eq-flip pivot p ∙ e) at (either p choice) in
      rw e (one ∙ ap (λ b. b && true_at cause p choice) two)
]

-- ---- terms that are put one behind the other

pub not-yet : (terms : Terms) (i : ℕ) (pkg : ℕ) (term : Term) → AreOnce terms → slice_get terms i ≡ Some (pkg, term) → has_term (take i terms) pkg ≡ false
not-yet [] i pkg term once at = absurd (none-some (pkg, term) at)
not-yet (t ∷ rest) zero pkg term once at = refl
not-yet (t ∷ rest) (suc i) pkg term once at = rw (apart t rest i pkg term once.0 at) (not-yet rest i pkg term once.1 at)

has_term-absent : (low pkg : ℕ) (terms : Terms) → OrderedFrom low terms → pkg < low → has_term terms pkg ≡ false
has_term-absent low pkg [] h lt = refl
has_term-absent low pkg (t ∷ rest) h lt =
    let ne : nat_eq t.0 pkg ≡ false = ne_eqb t.0 pkg (λ e. omega (arith, e, h.0)) in
    rw ne (has_term-absent (suc t.0) pkg rest h.2 (omega (arith, h.0)))

-- an incompatibility has at most one term a package
pub once-ordered : (low : ℕ) (terms : Terms) → OrderedFrom low terms → AreOnce terms
once-ordered low [] h = tt
once-ordered low (t ∷ rest) h = (has_term-absent (suc t.0) t.0 rest h.2 (omega arith), once-ordered (suc t.0) rest h.2)

-- ---- what is left once terms that always hold are left out

has_term-skip : (kept rest : Terms) (x : ℕ × Term) (pkg : ℕ) → has_term (kept ++ x ∷ rest) pkg ≡ false → has_term (kept ++ rest) pkg ≡ false
has_term-skip [] rest x pkg h = elim (cases_Bool (nat_eq x.0 pkg)) [
  | inl e ↦ absurd (true≢false (rw e at h))
  | inr e ↦ rw e at h
]
has_term-skip (t ∷ kept) rest x pkg h = elim (cases_Bool (nat_eq t.0 pkg)) [
  | inl e ↦ absurd (true≢false (rw e at h))
  | inr e ↦ rw e (has_term-skip kept rest x pkg (rw e at h))
]

once-skip : (kept rest : Terms) (x : ℕ × Term) → AreOnce (kept ++ x ∷ rest) → AreOnce (kept ++ rest)
once-skip [] rest x h = h.1
once-skip (t ∷ kept) rest x h = (has_term-skip kept rest x t.0 h.0, once-skip kept rest x h.1)

true_at-skip : (kept rest : Terms) (x : ℕ × Term) (p : ℕ) (choice : Option ℕ) → AreOnce (kept ++ x ∷ rest) → ((choice : Option ℕ) → true_of x.1 choice ≡ true) → true_at (kept ++ rest) p choice ≡ true_at (kept ++ x ∷ rest) p choice
true_at-skip [] rest x p choice once always = elim (cases_Bool (nat_eq x.0 p)) [
  | inl e ↦
      let nothing : true_at rest p choice ≡ true = true_at-none rest p choice (subst (λ q. has_term rest q ≡ false) (eqb-true x.0 p e) once.0) in
      rw e (nothing ∙ sym (always choice))
  | inr e ↦ rw e refl
]
true_at-skip (t ∷ kept) rest x p choice once always = ap (λ b. if nat_eq t.0 p then true_of t.1 choice else b) (true_at-skip kept rest x p choice once.1 always)

-- what is kept, with what is left, is what the table says
pub record IsKeeping (table kept rest : Terms) : Type 0 where
  pub exact : kept ++ without_always rest ≡ without_always table
  pub same : SaysSame (kept ++ rest) table
  pub once : AreOnce (kept ++ rest)
  pub none : table ≡ [] → kept ++ rest ≡ []

pub keeping-begin : (n : ℕ) (places : List ℕ) (table : Terms) → ArePlaced n places table → IsKeeping table [] table
keeping-begin n places table h = record { exact = refl; same = λ p choice. refl; once = once-placed n places table h; none = λ e. e }

pub keeping-kept : (table kept rest : Terms) (x : ℕ × Term) → is_always x.1 ≡ false → IsKeeping table kept (x ∷ rest) → IsKeeping table (kept ++ x ∷ []) rest
keeping-kept table kept rest x some h =
    let e : (kept ++ x ∷ []) ++ rest ≡ kept ++ x ∷ rest = append_assoc kept (x ∷ []) rest in
    record {
      exact = append_assoc kept (x ∷ []) (without_always rest) ∙ rw some at h.exact;
      same = λ p choice. rw e (h.same p choice);
      once = rw e h.once;
      none = λ n. e ∙ h.none n;
    }

pub keeping-left : (table kept rest : Terms) (x : ℕ × Term) → is_always x.1 ≡ true → ((choice : Option ℕ) → true_of x.1 choice ≡ true) → IsKeeping table kept (x ∷ rest) → IsKeeping table kept rest
keeping-left table kept rest x left_out always h = record {
  exact = rw left_out at h.exact;
  same = λ p choice. true_at-skip kept rest x p choice h.once always ∙ h.same p choice;
  once = once-skip kept rest x h.once;
  none = λ n. absurd (not-nil kept rest x (h.none n));
}
  where
    not-nil : (kept rest : Terms) (x : ℕ × Term) → kept ++ x ∷ rest ≡ [] → ⊥
    not-nil [] rest x e = cc
    not-nil (t ∷ kept) rest x e = cc

pub keeping-end : (table kept : Terms) → IsKeeping table kept [] → Concludes table kept
keeping-end table kept h =
    let e : kept ++ [] ≡ kept = append-nil kept in
    record { exact = sym e ∙ h.exact; same = λ p choice. rw e at (h.same p choice); once = rw e at h.once; none = λ n. sym e ∙ h.none n }
