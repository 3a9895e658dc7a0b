-- Members that are found by an index.
use Rattle.std.proofs.Common.{◌≡◌, ◌∙◌, ◌<◌, ◌≤◌, ◌+◌, ◌-◌, inl, inr, ℕ, Bool, true, false, true≢false, List, [], ◌∷◌, ◌++◌, length, sym, ap, subst, arith}
use Rattle.std.proofs.lemmas.Bool.{cases_lt, false_from_ne_true}
use Rattle.std.proofs.lemmas.Option.{slice_get_within}
use Rattle.std.specs.Prelude.{IfSome, None, Option, Some, slice_get}
use Rattle.std.specs.List.{list_any}
use Rattle.derivations.specs.Facts.{Terms}
use Rattle.store.specs.Indexes.{Extends, HasNone, Indexed, IsNewest, IsUnder, chain_of}
use Rattle.store.specs.Keys.{key_of}
use Rattle.store.specs.Slots.{AreFound, AreFoundBelow, HasKey, IsDroppedAt, IsMemberAt, Slots, concludes, kept, passes_at}
use Rattle.store.specs.Stored.{conclusion_of}
use Rattle.store.specs.declared.index.Link.{Link}
use Rattle.derivations.specs.Lines.{Line}
use Rattle.store.proofs.Chained.{Walked, Walked-end, Walked-next, Walked-weaker, read_more}
use Rattle.store.proofs.Concluding.{same_terms-Decides}
use Rattle.store.proofs.Thinning.{fails_next, none_kept, passes_none}

-- ---- a walk

-- a link under the number leads to no member that passes
abbrev pub FailsAt : (List Line → Bool) → Slots → ℕ → Link → Type 0
FailsAt test slots number link = link.number ≡ number → passes_at test (slice_get slots link.place) ≡ false

-- where those are found that pass, none is left at the end
pub found-fails : (Has : List Line → ℕ → Type 0) (test : List Line → Bool) (slots : Slots) (index : Indexed) (number at : ℕ) → index.whole ≡ true → AreFound Has index slots
    → ((lines : List Line) → test lines ≡ true → Has lines number) → Walked index.links (chain_of number) at (FailsAt test slots number) → HasNone index.links at
    → (place : ℕ) → passes_at test (slice_get slots place) ≡ false
found-fails Has test slots index number at whole found has walked none place =
    passes_none test slots place (λ lines e. false_from_ne_true (test lines) (λ t.
    let under = found whole place lines number e (has lines t) in
    let fails = Walked-end index.links (chain_of number) at (FailsAt test slots number) walked none under.at under.link under.is (ap chain_of under.number_is) under.number_is in
    true≢false (sym t ∙ sym (ap (passes_at test) e) ∙ ap (λ k. passes_at test (slice_get slots k)) (sym under.place_is) ∙ fails)))

-- none that stands under the number passes at the end
pub under-fails : (test : List Line → Bool) (slots : Slots) (links : List Link) (number at : ℕ) → Walked links (chain_of number) at (FailsAt test slots number) → HasNone links at
    → (place : ℕ) (lines : List Line) → IsMemberAt slots place lines → IsUnder links number place → test lines ≡ false
under-fails test slots links number at walked none place lines e under =
    let fails = Walked-end links (chain_of number) at (FailsAt test slots number) walked none under.at under.link under.is (ap chain_of under.number_is) under.number_is in
    sym (ap (passes_at test) e) ∙ ap (λ k. passes_at test (slice_get slots k)) (sym under.place_is) ∙ fails

-- none concludes the terms, where none under their key does
pub concluded-none : (slots : Slots) (index : Indexed) (terms : Terms) (number at : ℕ) → number ≡ key_of terms → index.whole ≡ true → AreFound HasKey index slots
    → Walked index.links (chain_of number) at (FailsAt (concludes terms) slots number) → HasNone index.links at → list_any (concludes terms) (kept slots) ≡ false
concluded-none slots index terms number at is whole found walked none =
    none_kept (concludes terms) slots
    (found-fails HasKey (concludes terms) slots index number at whole found
    (λ lines t. ap key_of ((same_terms-Decides (conclusion_of lines) terms).0 t) ∙ sym is) walked none)

-- one link more, whose place may have become empty
pub Walked-dropped : (links : List Link) (chain at : ℕ) (test : List Line → Bool) (old new : Slots) (number : ℕ) (link : Link) → Walked links chain at (FailsAt test old number) → 0 < at
    → slice_get links (at - 1) ≡ Some link → IsNewest links (at - 1) (chain_of link.number) link.before → IsDroppedAt test link.place old new → FailsAt test new number link
    → Walked links chain link.before (FailsAt test new number)
Walked-dropped links chain at test old new number link walked some is before dropped here =
    Walked-next links chain at (FailsAt test new number) link
    (Walked-weaker links chain at (FailsAt test old number) (FailsAt test new number) (λ other fails same. fails_next test old new link.place other.place dropped (fails same)) walked)
    some is before here

-- ---- who is found

pub IsUnder-later : (old new : List Link) (number place : ℕ) → Extends old new → IsUnder old number place → IsUnder new number place
IsUnder-later old new number place extends under = record { at = under.at; link = under.link; is = extends under.at under.link under.is; number_is = under.number_is; place_is = under.place_is }

-- of the first places one more
pub AreFoundBelow-next : (Has : List Line → ℕ → Type 0) (first : ℕ) (old new : Indexed) (slots : Slots) → (new.whole ≡ true → old.whole ≡ true) → Extends old.links new.links
    → ((lines : List Line) (number : ℕ) → new.whole ≡ true → IsMemberAt slots first lines → Has lines number → IsUnder new.links number first)
    → AreFoundBelow Has first old slots → AreFoundBelow Has (first + 1) new slots
AreFoundBelow-next Has first old new slots wholes extends here found whole place lines number e lt has = elim (cases_lt place first) [
  | inl below ↦ IsUnder-later old.links new.links number place extends (found (wholes whole) place lines number e below has)
  | inr above ↦
      let same : place ≡ first = omega (arith, lt) in
      subst (λ k. IsUnder new.links number k) (sym same) (here lines number whole (subst (λ k. IsMemberAt slots k lines) same e) has)
]

pub AreFoundBelow-all : (Has : List Line → ℕ → Type 0) (first : ℕ) (index : Indexed) (slots : Slots) → length slots ≤ first → AreFoundBelow Has first index slots → AreFound Has index slots
AreFoundBelow-all Has first index slots le found whole place lines number e has = found whole place lines number e (let lt = slice_get_within slots place (Some lines) e in omega arith) has

-- one member more
pub AreFound-push : (Has : List Line → ℕ → Type 0) (old new : Indexed) (slots : Slots) (more : List Line) → (new.whole ≡ true → old.whole ≡ true) → Extends old.links new.links
    → ((number : ℕ) → new.whole ≡ true → Has more number → IsUnder new.links number (length slots)) → AreFound Has old slots → AreFound Has new (slots ++ Some more ∷ [])
AreFound-push Has old new slots more wholes extends here found whole place lines number e has = elim (read_more slots (Some more) place (Some lines) e) [
  | inl before ↦ IsUnder-later old.links new.links number place extends (found (wholes whole) place lines number before has)
  | inr last ↦
      let same : more ≡ lines = cc last.1 in
      subst (λ k. IsUnder new.links number k) (sym last.0) (here number whole (subst (λ l. Has l number) (sym same) has))
]

-- where it could not be put, all are found as before
pub AreFound-later : (Has : List Line → ℕ → Type 0) (old new : Indexed) (slots : Slots) → (new.whole ≡ true → old.whole ≡ true) → Extends old.links new.links → AreFound Has old slots → AreFound Has new slots
AreFound-later Has old new slots wholes extends found whole place lines number e has = IsUnder-later old.links new.links number place extends (found (wholes whole) place lines number e has)

pub length_kept : (slots : Slots) → length (kept slots) ≤ length slots
length_kept [] = omega arith
length_kept (None ∷ rest) = (let rec = length_kept rest in omega arith)
length_kept (Some lines ∷ rest) = (let rec = length_kept rest in omega arith)

pub if_some : {A : Type 0} (P : A → Type 0) (o : Option A) (x : A) → IfSome o P → o ≡ Some x → P x
if_some P None x some e = absurd (cc e)
if_some P (Some y) x some e = (let same : y ≡ x = cc e in subst P same some)

pub if_weaker : {A : Type 0} (P Q : A → Type 0) → ((x : A) → P x → Q x) → (o : Option A) → IfSome o P → IfSome o Q
if_weaker P Q weaker None some = tt
if_weaker P Q weaker (Some x) some = weaker x some
