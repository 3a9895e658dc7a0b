-- The requirements that members rest on: how they come, and whom a publication ends.
use Rattle.std.proofs.Common.{◌≡◌, ◌∙◌, ◌<◌, ◌≤◌, ◌+◌, ◌⊎◌, inl, inr, ℕ, zero, suc, true, false, true≢false, List, [], ◌∷◌, ◌++◌, length, refl, sym, ap, subst, arith, nat_lt, rules}
use Rattle.std.proofs.lemmas.Bool.{cases_lt, false_from_ne_true}
use Rattle.std.proofs.lemmas.Option.{slice_get_within}
use Rattle.std.specs.Prelude.{None, Option, Some, is_some, slice_get}
use Rattle.versions.specs.Words.{Text, meets}
use Rattle.store.specs.Indexes.{Extends, HasNone, Indexed, IsUnder, chain_of}
use Rattle.store.specs.Slots.{AreFewer, IsMemberAt, Slots, is_met, passes_at}
use Rattle.store.specs.RequirementIndex.{AreDropped, AreHeld, AreHeldBelow, AreListed, CauseRests, IsHeld, IsWant, IsWhole, KeepsHeld, Rests, Wanted}
use Rattle.store.specs.declared.index.Link.{Link}
use Rattle.derivations.specs.Lines.{Line}
use Rattle.store.specs.declared.requirement_index.IndexedRequirement.{IndexedRequirement}
use Rattle.store.proofs.Chained.{Walked, Walked-end, read_more}
use Rattle.store.proofs.Finding.{IsUnder-later}
use Rattle.store.proofs.Resting.{met-rests}
use Rattle.store.proofs.Thinning.{passes_none}

-- ---- requirements that come

read_before : {A : Type 0} (xs : List A) (y : A) (n : ℕ) (x : A) → slice_get xs n ≡ Some x → slice_get (xs ++ y ∷ []) n ≡ Some x
read_before [] y n x e = absurd (cc e)
read_before (a ∷ xs) y zero x e = e
read_before (a ∷ xs) y (suc n) x e = read_before xs y n x e

read_last : {A : Type 0} (xs : List A) (y : A) → slice_get (xs ++ y ∷ []) (length xs) ≡ Some y
read_last [] y = refl
read_last (a ∷ xs) y = read_last xs y

pub IsWant-more : (wants : List IndexedRequirement) (want : IndexedRequirement) (place target : ℕ) (need : Text) → IsWant wants place target need → IsWant (wants ++ want ∷ []) place target need
IsWant-more wants want place target need is = record { want = is.want; at = read_before wants want place is.want is.at; target_is = is.target_is; need_is = is.need_is }

pub IsWant-last : (wants : List IndexedRequirement) (want : IndexedRequirement) → IsWant (wants ++ want ∷ []) (length wants) want.target want.need
IsWant-last wants want = record { want = want; at = read_last wants want; target_is = refl; need_is = refl }

-- with one more, which stands under its package
pub AreListed-push : (wants : List IndexedRequirement) (want : IndexedRequirement) (old new : Indexed) → (new.whole ≡ true → old.whole ≡ true) → Extends old.links new.links → (new.whole ≡ true → IsUnder new.links want.target (length wants))
    → AreListed wants old → AreListed (wants ++ want ∷ []) new
AreListed-push wants want old new wholes extends here listed whole place target need is = elim (read_more wants want place is.want is.at) [
  | inl before ↦ IsUnder-later old.links new.links target place extends (listed (wholes whole) place target need (record { want = is.want; at = before; target_is = is.target_is; need_is = is.need_is }))
  | inr last ↦
      let target_is : want.target ≡ target = ap (λ (w : IndexedRequirement). w.target) last.1 ∙ is.target_is in
      subst (λ n. IsUnder new.links n place) target_is (subst (λ k. IsUnder new.links want.target k) (sym last.0) (here whole))
]

-- a version that does not meet the requirement in a place
pub unmet_want : (wants : List IndexedRequirement) (place p : ℕ) (want : IndexedRequirement) (need version : Text) → slice_get wants place ≡ Some want → meets want.need version ≡ false → IsWant wants place p need → meets need version ≡ true → ⊥
unmet_want wants place p want need version at fails is met =
    let both : Some is.want ≡ Some want = sym is.at ∙ at in
    let same : is.want ≡ want = cc both in
    true≢false (sym met ∙ ap (λ n. meets n version) (sym is.need_is) ∙ ap (λ (w : IndexedRequirement). meets w.need version) same ∙ fails)

-- no place past the end has one
pub no_want : {R : Type 0} (wants : List IndexedRequirement) (place p : ℕ) (need : Text) (found : Option R) → is_some found ≡ nat_lt place (length wants) → found ≡ None → IsWant wants place p need → ⊥
no_want wants place p need found there none is =
    let lt : place < length wants = slice_get_within wants place is.want is.at in
    let within : nat_lt place (length wants) ≡ true = search rules in
    true≢false (sym within ∙ sym there ∙ ap is_some none)

-- ---- what is held

pub IsHeld-later : (old new : Wanted) → ((place target : ℕ) (need : Text) → IsWant old.wants place target need → IsWant new.wants place target need) → Extends old.targets.links new.targets.links
    → Extends old.members.links new.members.links → (member target : ℕ) (need : Text) → IsHeld old member target need → IsHeld new member target need
IsHeld-later old new wants targets members member target need held = record {
  place = held.place;
  wants = wants held.place target need held.wants;
  listed = IsUnder-later old.targets.links new.targets.links target held.place targets held.listed;
  under = IsUnder-later old.members.links new.members.links held.place member members held.under;
}

pub KeepsHeld-next : (old mid new : Wanted) → KeepsHeld old mid → KeepsHeld mid new → KeepsHeld old new
KeepsHeld-next old mid new first then = record {
  whole = λ w. first.whole (then.whole w);
  held = λ member target need h. then.held member target need (first.held member target need h);
}

pub KeepsHeld-same : (wanted : Wanted) → KeepsHeld wanted wanted
KeepsHeld-same wanted = record { whole = λ w. w; held = λ member target need h. h }

-- with one requirement more
pub KeepsHeld-push : (wants : List IndexedRequirement) (want : IndexedRequirement) (old new members : Indexed) → (new.whole ≡ true → old.whole ≡ true) → Extends old.links new.links
    → KeepsHeld (record { wants = wants; targets = old; members = members }) (record { wants = wants ++ want ∷ []; targets = new; members = members })
KeepsHeld-push wants want old new members wholes extends = record {
  whole = λ w. (wholes w.0, w.1);
  held = IsHeld-later (record { wants = wants; targets = old; members = members }) (record { wants = wants ++ want ∷ []; targets = new; members = members })
      (IsWant-more wants want) extends (λ n link e. e);
}

-- with one member more
pub KeepsHeld-members : (wants : List IndexedRequirement) (targets old new : Indexed) → (new.whole ≡ true → old.whole ≡ true) → Extends old.links new.links
    → KeepsHeld (record { wants = wants; targets = targets; members = old }) (record { wants = wants; targets = targets; members = new })
KeepsHeld-members wants targets old new wholes extends = record {
  whole = λ w. (w.0, wholes w.1);
  held = IsHeld-later (record { wants = wants; targets = targets; members = old }) (record { wants = wants; targets = targets; members = new }) (λ place target need is. is) (λ n link e. e) extends;
}

-- of what the lines rest on that is held which the lines that are left don't rest on
abbrev pub HoldsBut : Wanted → ℕ → List Line → List Line → Type 0
HoldsBut wanted member lines left = (target : ℕ) (need : Text) → Rests lines target need → Rests left target need ⊎ IsHeld wanted member target need

pub HoldsBut-next : (old mid new : Wanted) (member : ℕ) (lines : List Line) (line : Line) (left : List Line) → KeepsHeld old mid → KeepsHeld mid new
    → (IsWhole mid → (target : ℕ) (need : Text) → CauseRests line.causes.0 target need → IsHeld mid member target need)
    → (IsWhole new → (target : ℕ) (need : Text) → CauseRests line.causes.1 target need → IsHeld new member target need)
    → (IsWhole old → HoldsBut old member lines (line ∷ left)) → IsWhole new → HoldsBut new member lines left
HoldsBut-next old mid new member lines line left first then one two before whole target need rests =
    elim (before (first.whole (then.whole whole)) target need rests) [
      | inr held ↦ inr (then.held member target need (first.held member target need held))
      | inl here ↦ elim here [
        | inl own ↦ inr (then.held member target need (one (then.whole whole) target need own))
        | inr further ↦ elim further [
          | inl second ↦ inr (two whole target need second)
          | inr later ↦ inl later
        ]
      ]
    ]

-- ---- members that come

pub AreHeldBelow-next : (first : ℕ) (old new : Wanted) (slots : Slots) → KeepsHeld old new
    → ((lines : List Line) → IsWhole new → IsMemberAt slots first lines → (target : ℕ) (need : Text) → Rests lines target need → IsHeld new first target need)
    → AreHeldBelow first old slots → AreHeldBelow (first + 1) new slots
AreHeldBelow-next first old new slots keeps here held whole place lines target need e lt rests = elim (cases_lt place first) [
  | inl below ↦ keeps.held place target need (held (keeps.whole whole) place lines target need e below rests)
  | inr above ↦
      let same : place ≡ first = omega (arith, lt) in
      subst (λ k. IsHeld new k target need) (sym same) (here lines whole (subst (λ k. IsMemberAt slots k lines) same e) target need rests)
]

pub AreHeldBelow-all : (first : ℕ) (wanted : Wanted) (slots : Slots) → length slots ≤ first → AreHeldBelow first wanted slots → AreHeld wanted slots
AreHeldBelow-all first wanted slots le held whole place lines target need e rests = held whole place lines target need e (let lt = slice_get_within slots place (Some lines) e in omega arith) rests

pub AreHeld-push : (old new : Wanted) (slots : Slots) (more : List Line) → KeepsHeld old new
    → (IsWhole new → (target : ℕ) (need : Text) → Rests more target need → IsHeld new (length slots) target need) → AreHeld old slots → AreHeld new (slots ++ Some more ∷ [])
AreHeld-push old new slots more keeps here held whole place lines target need e rests = elim (read_more slots (Some more) place (Some lines) e) [
  | inl before ↦ keeps.held place target need (held (keeps.whole whole) place lines target need before rests)
  | inr last ↦
      let same : more ≡ lines = cc last.1 in
      subst (λ k. IsHeld new k target need) (sym last.0) (here whole target need (subst (λ l. Rests l target need) (sym same) rests))
]

pub AreHeld-later : (old new : Wanted) (slots : Slots) → KeepsHeld old new → AreHeld old slots → AreHeld new slots
AreHeld-later old new slots keeps held whole place lines target need e rests = keeps.held place target need (held (keeps.whole whole) place lines target need e rests)

pub AreHeld-fewer : (wanted : Wanted) (old new : Slots) → AreFewer old new → AreHeld wanted old → AreHeld wanted new
AreHeld-fewer wanted old new fewer held whole place lines target need e rests = held whole place lines target need (fewer place lines e) rests

-- ---- members that go

-- the link leads to no requirement that holds a member which is met
abbrev pub DropsAt : List IndexedRequirement → List Link → ℕ → Text → Slots → Link → Type 0
DropsAt wants members p version slots link = link.number ≡ p → AreDropped wants members link.place p version slots

pub DropsAt-fewer : (wants : List IndexedRequirement) (members : List Link) (p : ℕ) (version : Text) (old new : Slots) → AreFewer old new → (link : Link) → DropsAt wants members p version old link
    → DropsAt wants members p version new link
DropsAt-fewer wants members p version old new fewer link drops own need is met place lines e under = drops own need is met place lines (fewer place lines e) under

-- where each requirement on the package was asked, no member is met
pub none-met : (wanted : Wanted) (slots : Slots) (p : ℕ) (version : Text) (at : ℕ) → IsWhole wanted → AreHeld wanted slots
    → Walked wanted.targets.links (chain_of p) at (DropsAt wanted.wants wanted.members.links p version slots) → HasNone wanted.targets.links at → (place : ℕ) → passes_at (is_met p version) (slice_get slots place) ≡ false
none-met wanted slots p version at whole held walked none place =
    passes_none (is_met p version) slots place (λ lines e. false_from_ne_true (is_met p version lines) (λ t.
    let rests = met-rests p version lines t in
    let h = held whole place lines p rests.0 e rests.1 in
    let under = h.listed in
    let drops = Walked-end wanted.targets.links (chain_of p) at (DropsAt wanted.wants wanted.members.links p version slots) walked none under.at under.link under.is (ap chain_of under.number_is) under.number_is in
    let is = subst (λ k. IsWant wanted.wants k p rests.0) (sym under.place_is) h.wants in
    let below = subst (λ k. IsUnder wanted.members.links k place) (sym under.place_is) h.under in
    true≢false (sym t ∙ drops rests.0 is rests.2 place lines e below)))
