-- Places stay right while names, requirements and publications come in behind.
use Rattle.std.proofs.Common.{◌≡◌, ◌<◌, ◌≤◌, ◌+◌, ◌-◌, ◌∙◌, ◌⊎◌, inl, inr, ℕ, zero, suc, List, [], ◌∷◌, ◌++◌, length, refl, sym, subst, ap, arith, get_or, set, drop, take}
use Rattle.std.specs.Prelude.{All, Bool, true, false, Err, Ok, OnErr, OnOk, Result, Some, if◌then◌else◌, slice_get, slice_range}
use Rattle.std.proofs.lemmas.Option.{none-some, same_Some}
use Rattle.std.proofs.lemmas.List.{get_or-map}
use Rattle.std.proofs.lemmas.List.Elements.{All-get_or, All-head, All-push, All-set, All-tail, All-weaker}
use Rattle.releases.specs.declared.release.Release.{Release}
use Rattle.releases.specs.Releases.{is_named, with_need}
use Rattle.versions.specs.Words.{Text, same_precedence}
use Rattle.registry.specs.Places.{AreAllPlaced, ArePlaced, ArePlacesOf, Extends, IsGrown, StandBeside, StandsAt, named_of}
use Rattle.registry.specs.Publications.{PublicationList, parts_of, publications_of, EndWithin}
use Rattle.registry.specs.Registry.{Publication}
use Rattle.registry.specs.Step.{set_yanked}
use Rattle.registry.specs.declared.place.Place.{Place}
use Rattle.registry.specs.declared.span.Span.{Span}

-- ---- what stands at a place stands there in a longer list

pub get-longer : {X : Type 0} (xs more : List X) (i : ℕ) (x : X) → slice_get xs i ≡ Some x → slice_get (xs ++ more) i ≡ Some x
get-longer [] more i x e = absurd (none-some x e)
get-longer (y ∷ ys) more zero x e = e
get-longer (y ∷ ys) more (suc i) x e = get-longer ys more i x e

-- ---- right places

-- places stay right where all that stands somewhere stays there
pub places-stay : (names names' : List Text) (named named' : List (List Text)) → ((need : Text × Text) (place : Place) → StandsAt names named need place → StandsAt names' named' need place)
    → (needs : List (Text × Text)) (places : List Place) → ArePlacesOf names named needs places → ArePlacesOf names' named' needs places
places-stay names names' named named' stand needs places right j place at =
    let one = right j place at in (one.0, one.1, stand one.0 place one.2)

beside-stay : (names names' : List Text) (named named' : List (List Text)) → ((need : Text × Text) (place : Place) → StandsAt names named need place → StandsAt names' named' need place)
    → (publications : List Publication) (places : List (List Place)) → StandBeside names named publications places → StandBeside names' named' publications places
beside-stay names names' named named' stand [] places right = tt
beside-stay names names' named named' stand (p ∷ rest) [] right = tt
beside-stay names names' named named' stand (p ∷ rest) (first ∷ places) right = (
  places-stay names names' named named' stand p.needs first right.0,
  beside-stay names names' named named' stand rest places right.1,
)

all-stay : (names names' : List Text) (named named' : List (List Text)) → ((need : Text × Text) (place : Place) → StandsAt names named need place → StandsAt names' named' need place)
    → (lists : List PublicationList) → All (ArePlaced names named) lists → All (ArePlaced names' named') lists
all-stay names names' named named' stand lists right =
    All-weaker (ArePlaced names named) (ArePlaced names' named') (λ list. beside-stay names names' named named' stand list.publications list.places) lists right

-- ---- growth

pub extends-none : (names : List Text) (lists : List PublicationList) → Extends names lists names lists
extends-none names lists = record { stand = λ need place h. h; placed = λ h. h }

pub extends-then : (names names' names'' : List Text) (lists lists' lists'' : List PublicationList) → Extends names lists names' lists' → Extends names' lists' names'' lists''
    → Extends names lists names'' lists''
extends-then names names' names'' lists lists' lists'' one two = record {
  stand = λ need place h. two.stand need place (one.stand need place h);
  placed = λ h. two.placed (one.placed h);
}

-- the same names and lists
pub extends-same : (names names' : List Text) (lists lists' : List PublicationList) → names' ≡ names → lists' ≡ lists → Extends names lists names' lists'
extends-same names names' lists lists' keys items =
    subst (λ (ks : List Text). Extends names lists ks lists') (sym keys)
    (subst (λ (ls : List PublicationList). Extends names lists names ls) (sym items) (extends-none names lists))

pub grown-none : (list : PublicationList) → IsGrown list list
grown-none list = record { named = λ at need h. h; placed = λ names named h. h }

pub grown-then : (one two three : PublicationList) → IsGrown one two → IsGrown two three → IsGrown one three
grown-then one two three first second = record {
  named = λ at need h. second.named at need (first.named at need h);
  placed = λ names named h. second.placed names named (first.placed names named h);
}

-- the requirements of the list that is changed and of the others
named-set : (lists : List PublicationList) (i : ℕ) (list changed : PublicationList) → list ≡ get_or lists i list
    → ((at : ℕ) (need : Text) → slice_get list.named at ≡ Some need → slice_get changed.named at ≡ Some need)
    → (k at : ℕ) (need : Text) → slice_get (get_or (named_of lists) k []) at ≡ Some need → slice_get (get_or (named_of (set lists i changed)) k []) at ≡ Some need
named-set [] i list changed is grown k at need e = e
named-set (w ∷ lists) zero list changed is grown zero at need e =
    grown at need (ap (λ (l : PublicationList). slice_get l.named at) is ∙ e)
named-set (w ∷ lists) zero list changed is grown (suc k) at need e = e
named-set (w ∷ lists) (suc i) list changed is grown zero at need e = e
named-set (w ∷ lists) (suc i) list changed is grown (suc k) at need e = named-set lists i list changed is grown k at need e

stand-set : (names : List Text) (lists : List PublicationList) (i : ℕ) (list changed : PublicationList) → list ≡ get_or lists i list
    → ((at : ℕ) (need : Text) → slice_get list.named at ≡ Some need → slice_get changed.named at ≡ Some need)
    → (need : Text × Text) (place : Place) → StandsAt names (named_of lists) need place → StandsAt names (named_of (set lists i changed)) need place
stand-set names lists i list changed is grown need place h = record {
  index = h.index;
  target = h.target;
  name = h.name;
  requirement = named-set lists i list changed is grown h.index place.need need.1 h.requirement;
}

-- a list is changed, of which each place stays right
pub extends-set : (names : List Text) (lists : List PublicationList) (i : ℕ) (list changed : PublicationList) → i < length lists → list ≡ get_or lists i list → IsGrown list changed
    → Extends names lists names (set lists i changed)
extends-set names lists i list changed lt is grown =
    let stand = stand-set names lists i list changed is grown.named in
    record {
      stand = stand;
      placed = λ right.
          let now = all-stay names names (named_of lists) (named_of (set lists i changed)) stand lists right in
          All-set (ArePlaced names (named_of (set lists i changed))) lists i changed
          (grown.placed names (named_of (set lists i changed))
          (subst (ArePlaced names (named_of (set lists i changed))) (sym is) (All-get_or (ArePlaced names (named_of (set lists i changed))) lists i list lt now))) now;
    }

named-push : (lists : List PublicationList) (list : PublicationList) (k at : ℕ) (need : Text) → slice_get (get_or (named_of lists) k []) at ≡ Some need
    → slice_get (get_or (named_of (lists ++ list ∷ [])) k []) at ≡ Some need
named-push [] list k at need e = absurd (none-some need e)
named-push (w ∷ lists) list zero at need e = e
named-push (w ∷ lists) list (suc k) at need e = named-push lists list k at need e

nothing-beside : (names : List Text) (named : List (List Text)) (publications : List Publication) (places : List (List Place)) → publications ≡ [] → StandBeside names named publications places
nothing-beside names named publications places none = subst (λ l. StandBeside names named l places) (sym none) tt

-- a name and its list come in behind all, with nothing published yet
pub extends-push : (names : List Text) (lists : List PublicationList) (name : Text) (list : PublicationList) → list.publications ≡ []
    → Extends names lists (names ++ name ∷ []) (lists ++ list ∷ [])
extends-push names lists name list none =
    let stand : (need : Text × Text) (place : Place) → StandsAt names (named_of lists) need place → StandsAt (names ++ name ∷ []) (named_of (lists ++ list ∷ [])) need place
    = λ need place h. record {
      index = h.index;
      target = h.target;
      name = get-longer names (name ∷ []) h.index need.0 h.name;
      requirement = named-push lists list h.index place.need need.1 h.requirement;
    } in
    record {
      stand = stand;
      placed = λ right.
          All-push (ArePlaced (names ++ name ∷ []) (named_of (lists ++ list ∷ []))) lists list
          (all-stay names (names ++ name ∷ []) (named_of lists) (named_of (lists ++ list ∷ [])) stand lists right)
          (nothing-beside (names ++ name ∷ []) (named_of (lists ++ list ∷ [])) list.publications list.places none);
    }

pub extends-pushed : (names names' : List Text) (lists lists' : List PublicationList) (name : Text) (list : PublicationList) → names' ≡ names ++ name ∷ [] → lists' ≡ lists ++ list ∷ []
    → list.publications ≡ [] → Extends names lists names' lists'
extends-pushed names names' lists lists' name list keys items none =
    subst (λ (ks : List Text). Extends names lists ks lists') (sym keys)
    (subst (λ (ls : List PublicationList). Extends names lists (names ++ name ∷ []) ls) (sym items) (extends-push names lists name list none))

-- ---- beside each publication

-- one more, with its places
pub beside-push : (names : List Text) (named : List (List Text)) (publications : List Publication) (places : List (List Place)) (next : Publication) (latest : List Place)
    → length places ≡ length publications → ArePlacesOf names named next.needs latest → StandBeside names named publications places
    → StandBeside names named (publications ++ next ∷ []) (places ++ latest ∷ [])
beside-push names named [] [] next latest e right h = (right, tt)
beside-push names named [] (q ∷ qs) next latest e right h = absurd (omega (arith, e))
beside-push names named (p ∷ rest) [] next latest e right h = absurd (omega (arith, e))
beside-push names named (p ∷ rest) (q ∷ qs) next latest e right h = (h.0, beside-push names named rest qs next latest (omega (arith, e)) right h.1)

-- those of one publication
pub beside-at : (names : List Text) (named : List (List Text)) (publications : List Publication) (places : List (List Place)) (k : ℕ) (p : Publication) → k < length places
    → slice_get publications k ≡ Some p → StandBeside names named publications places → ArePlacesOf names named p.needs (get_or places k [])
beside-at names named [] places k p lt at h = absurd (none-some p at)
beside-at names named (x ∷ rest) [] k p lt at h = absurd (omega (arith, lt))
beside-at names named (x ∷ rest) (q ∷ qs) zero p lt at h =
    let same = same_Some x p at in subst (λ (y : Publication). ArePlacesOf names named y.needs q) same h.0
beside-at names named (x ∷ rest) (q ∷ qs) (suc k) p lt at h = beside-at names named rest qs k p (omega (arith, lt)) at h.1

-- ---- of lists that are changed

pub grown-same : (old new : PublicationList) → new.publications ≡ old.publications → new.named ≡ old.named → new.places ≡ old.places → IsGrown old new
grown-same old new published named places = record {
  named = λ at need h. subst (λ (l : List Text). slice_get l at ≡ Some need) (sym named) h;
  placed = λ ns ms h.
      subst (λ (l : List Publication). StandBeside ns ms l new.places) (sym published)
      (subst (λ (l : List (List Place)). StandBeside ns ms old.publications l) (sym places) h);
}

-- a requirement more is named
pub grown-named : {T E : Type 0} (result : Result T E) (old new : List Text) (need : Text) → OnOk result (new ≡ with_need old need) → OnErr result (new ≡ old)
    → (at : ℕ) (other : Text) → slice_get old at ≡ Some other → slice_get new at ≡ Some other
grown-named (Ok x) old new need ok err at other h =
    subst (λ (l : List Text). slice_get l at ≡ Some other) (sym ok)
    (elim (is_named old need) as (λ b. slice_get (if b then old else old ++ need ∷ []) at ≡ Some other) [
      | true ↦ h
      | false ↦ get-longer old (need ∷ []) at other h
    ])
grown-named (Err e) old new need ok err at other h = subst (λ (l : List Text). slice_get l at ≡ Some other) (sym err) h

-- a version is yanked or not
pub beside-yanked : (names : List Text) (named : List (List Text)) (publications : List Publication) (places : List (List Place)) (version : Text) (yanked : Bool)
    → StandBeside names named publications places → StandBeside names named (set_yanked version yanked publications) places
beside-yanked names named [] places version yanked h = tt
beside-yanked names named (p ∷ rest) [] version yanked h =
    let changed : Publication = record { version = p.version; needs = p.needs; yanked = yanked } in
    elim (same_precedence version p.version) as (λ b. StandBeside names named (if b then changed ∷ rest else p ∷ set_yanked version yanked rest) []) [
      | true ↦ tt
      | false ↦ tt
    ]
beside-yanked names named (p ∷ rest) (q ∷ qs) version yanked h =
    let changed : Publication = record { version = p.version; needs = p.needs; yanked = yanked } in
    elim (same_precedence version p.version) as (λ b. StandBeside names named (if b then changed ∷ rest else p ∷ set_yanked version yanked rest) (q ∷ qs)) [
      | true ↦ h
      | false ↦ (h.0, beside-yanked names named rest qs version yanked h.1)
    ]

pub grown-yanked : (old new : PublicationList) (version : Text) (yanked : Bool) → new.publications ≡ set_yanked version yanked old.publications → new.named ≡ old.named
    → new.places ≡ old.places → IsGrown old new
grown-yanked old new version yanked published named places = record {
  named = λ at need h. subst (λ (l : List Text). slice_get l at ≡ Some need) (sym named) h;
  placed = λ ns ms h.
      subst (λ (l : List Publication). StandBeside ns ms l new.places) (sym published)
      (subst (λ (l : List (List Place)). StandBeside ns ms (set_yanked version yanked old.publications) l) (sym places) (beside-yanked ns ms old.publications old.places version yanked h));
}

-- ---- parts of a list of places

-- a part that ends before it begins is empty
pub part-none : (places : List Place) (from to : ℕ) → (to < from) ⊎ (length places < to) → to ≤ length places → [] ≡ slice_range places from to
part-none places from to out within = elim out [
  | inl before ↦ let none : to - from ≡ 0 = omega (arith, before) in sym (ap (λ n. take n (drop from places)) none)
  | inr past ↦ absurd (omega (arith, past, within))
]

take-longer : {X : Type 0} (xs more : List X) (n : ℕ) → n ≤ length xs → take n (xs ++ more) ≡ take n xs
take-longer xs more zero h = refl
take-longer [] more (suc n) h = absurd (omega (arith, h))
take-longer (x ∷ xs) more (suc n) h = ap (λ l. x ∷ l) (take-longer xs more n (omega (arith, h)))

part-longer : {X : Type 0} (xs more : List X) (a n : ℕ) → (0 < n → a + n ≤ length xs) → take n (drop a (xs ++ more)) ≡ take n (drop a xs)
part-longer xs more a zero h = refl
part-longer [] more a (suc n) h = let no = h (omega arith) in absurd (omega (arith, no))
part-longer (x ∷ xs) more zero (suc n) h = let within = h (omega arith) in take-longer (x ∷ xs) more (suc n) (omega (arith, within))
part-longer (x ∷ xs) more (suc a) (suc n) h = let within = h (omega arith) in part-longer xs more a (suc n) (λ pos. omega (arith, within))

pub slice-longer : {X : Type 0} (xs more : List X) (a b : ℕ) → b ≤ length xs → slice_range (xs ++ more) a b ≡ slice_range xs a b
slice-longer xs more a b within = part-longer xs more a (b - a) (λ pos. omega (arith, within, pos))

pub parts-push : (places more : List Place) (spans : List Span) (span : Span) → EndWithin (length places) spans
    → parts_of (places ++ more) (spans ++ span ∷ []) ≡ parts_of places spans ++ slice_range (places ++ more) span.from span.to ∷ []
parts-push places more [] span within = refl
parts-push places more (s ∷ spans) span within =
    let P : Span → Type 0 = λ t. t.to ≤ length places in
    ap (λ (part : List Place). part ∷ parts_of (places ++ more) (spans ++ span ∷ [])) (slice-longer places more s.from s.to (All-head P s spans within))
    ∙ ap (λ (l : List (List Place)). slice_range places s.from s.to ∷ l) (parts-push places more spans span (All-tail P s spans within))

pub within-push : (count larger : ℕ) (spans : List Span) (span : Span) → count ≤ larger → span.to ≤ larger → EndWithin count spans → EndWithin larger (spans ++ span ∷ [])
within-push count larger spans span more last within =
    let P : Span → Type 0 = λ t. t.to ≤ count in
    let Q : Span → Type 0 = λ t. t.to ≤ larger in
    All-push Q spans span (All-weaker P Q (λ t h. omega (arith, h, more)) spans within) last

pub within-at : (count : ℕ) (spans : List Span) (j : ℕ) (span : Span) → EndWithin count spans → slice_get spans j ≡ Some span → span.to ≤ count
within-at count [] j span within at = absurd (none-some span at)
within-at count (s ∷ spans) zero span within at =
    let P : Span → Type 0 = λ t. t.to ≤ count in subst P (same_Some s span at) (All-head P s spans within)
within-at count (s ∷ spans) (suc j) span within at =
    let P : Span → Type 0 = λ t. t.to ≤ count in within-at count spans j span (All-tail P s spans within) at

pub part-at : (places : List Place) (spans : List Span) (j : ℕ) (span : Span) → slice_get spans j ≡ Some span → get_or (parts_of places spans) j [] ≡ slice_range places span.from span.to
part-at places [] j span at = absurd (none-some span at)
part-at places (s ∷ spans) zero span at = ap (λ (t : Span). slice_range places t.from t.to) (same_Some s span at)
part-at places (s ∷ spans) (suc j) span at = part-at places spans j span at

pub part-past : (places : List Place) (spans : List Span) (j : ℕ) → length spans ≤ j → get_or (parts_of places spans) j [] ≡ []
part-past places [] j past = refl
part-past places (s ∷ spans) zero past = absurd (omega (arith, past))
part-past places (s ∷ spans) (suc j) past = part-past places spans j (omega (arith, past))

-- the places of what one publication needs
pub beside-needs : (names : List Text) (named : List (List Text)) (releases : List Release) (needs : List (List (Text × Text))) (parts : List (List Place)) (k : ℕ)
    (own : List (Text × Text)) → length needs ≡ length releases → length parts ≡ length needs → slice_get needs k ≡ Some own
    → StandBeside names named (publications_of releases needs) parts → ArePlacesOf names named own (get_or parts k [])
beside-needs names named releases [] parts k own e f at h = absurd (none-some own at)
beside-needs names named [] (n ∷ ns) parts k own e f at h = absurd (omega (arith, e))
beside-needs names named (r ∷ rs) (n ∷ ns) [] k own e f at h = absurd (omega (arith, f))
beside-needs names named (r ∷ rs) (n ∷ ns) (q ∷ qs) zero own e f at h =
    subst (λ (d : List (Text × Text)). ArePlacesOf names named d q) (same_Some n own at) h.0
beside-needs names named (r ∷ rs) (n ∷ ns) (q ∷ qs) (suc k) own e f at h =
    beside-needs names named rs ns qs k own (omega (arith, e)) (omega (arith, f)) at h.1

-- a part that is read
pub part-read : (places : List Place) (spans : List Span) (j : ℕ) (span : Span) → j < length spans → span ≡ get_or spans j span
    → get_or (parts_of places spans) j [] ≡ slice_range places span.from span.to
part-read places spans j span lt is =
    get_or-map (λ (t : Span). slice_range places t.from t.to) spans j span [] lt ∙ ap (λ (t : Span). slice_range places t.from t.to) (sym is)

pub within-read : (count : ℕ) (spans : List Span) (j : ℕ) (span : Span) → j < length spans → span ≡ get_or spans j span → EndWithin count spans → span.to ≤ count
within-read count spans j span lt is within =
    let P : Span → Type 0 = λ t. t.to ≤ count in subst P (sym is) (All-get_or P spans j span lt within)

-- a publication comes into a list, with right places
pub placed-set : (names : List Text) (lists : List PublicationList) (i : ℕ) (list changed : PublicationList) (needs : List (Text × Text)) (places : List Place) → i < length lists
    → list ≡ get_or lists i list → changed.named ≡ list.named
    → ((named : List (List Text)) → ArePlacesOf names named needs places → ArePlaced names named list → ArePlaced names named changed)
    → ArePlacesOf names (named_of lists) needs places → AreAllPlaced names lists → AreAllPlaced names (set lists i changed)
placed-set names lists i list changed needs places lt is same next right before =
    let larger = named_of (set lists i changed) in
    let grown : (at : ℕ) (need : Text) → slice_get list.named at ≡ Some need → slice_get changed.named at ≡ Some need
    = λ at need h. subst (λ (l : List Text). slice_get l at ≡ Some need) (sym same) h in
    let stand = stand-set names lists i list changed is grown in
    let now = all-stay names names (named_of lists) larger stand lists before in
    All-set (ArePlaced names larger) lists i changed
    (next larger (places-stay names names (named_of lists) larger stand needs places right)
    (subst (ArePlaced names larger) (sym is) (All-get_or (ArePlaced names larger) lists i list lt now))) now

-- what stands at a place is numbered
pub all-at : (names : List Text) (lists : List PublicationList) (i : ℕ) (list : PublicationList) → i < length lists → list ≡ get_or lists i list → AreAllPlaced names lists
    → ArePlaced names (named_of lists) list
all-at names lists i list lt is right = subst (ArePlaced names (named_of lists)) (sym is) (All-get_or (ArePlaced names (named_of lists)) lists i list lt right)
