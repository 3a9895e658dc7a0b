-- Needs: where no name comes twice, and what holds of each.
use Rattle.std.proofs.Common.{◌≡◌, ◌<◌, ◌∙◌, ℕ, zero, suc, List, [], ◌∷◌, length, get_or, refl, ap, subst, arith, false, ◌||◌}
use Rattle.std.specs.Prelude.{Contains}
use Rattle.std.specs.List.{AllByRecursion, IsDistinct, list_any}
use Rattle.std.specs.Str.{bytes_eq}
use Rattle.std.proofs.lemmas.Map.Keys.{IsDistinct-head, IsDistinct-tail}
use Rattle.std.proofs.lemmas.Bool.{or_parts}
use Rattle.versions.specs.Words.{Text}
use Rattle.registry.specs.Needs.{has_name, names_of, repeats, repeats_name}

-- ---- names that are distinct

others-head : (names : List Text) (name : Text) → list_any (bytes_eq name) names ≡ false → AllByRecursion (λ y. bytes_eq name y ≡ false) names
others-head [] name e = tt
others-head (x ∷ rest) name e = let parts = or_parts (bytes_eq name x) (list_any (bytes_eq name) rest) e in (parts.0, others-head rest name parts.1)

head-others : (names : List Text) (name : Text) → AllByRecursion (λ y. bytes_eq name y ≡ false) names → list_any (bytes_eq name) names ≡ false
head-others [] name h = refl
head-others (x ∷ rest) name h = ap (λ b. b || list_any (bytes_eq name) rest) h.0 ∙ head-others rest name h.1

-- where no name is repeated the names are distinct, and the other way round
pub distinct-once : (names : List Text) → repeats names ≡ false → IsDistinct bytes_eq names
unfolding IsDistinct
distinct-once [] e = tt
distinct-once (x ∷ rest) e =
    let parts = or_parts (list_any (bytes_eq x) rest) (repeats rest) e in
    (others-head rest x parts.0, distinct-once rest parts.1)

pub once-distinct : (names : List Text) → IsDistinct bytes_eq names → repeats names ≡ false
once-distinct [] h = refl
once-distinct (x ∷ rest) h =
    let head = head-others rest x (IsDistinct-head bytes_eq x rest h) in
    ap (λ b. b || repeats rest) head ∙ once-distinct rest (IsDistinct-tail bytes_eq x rest h)

-- a need names a package twice where a name comes twice
pub repeats_name-names : (needs : List (Text × Text)) → repeats_name needs ≡ repeats (names_of needs)
repeats_name-names [] = refl
repeats_name-names (d ∷ rest) = ap (λ b. b || repeats_name rest) (has rest) ∙ ap (λ b. list_any (bytes_eq d.0) (names_of rest) || b) (repeats_name-names rest)
  where
    has : (needs : List (Text × Text)) → has_name needs d.0 ≡ list_any (bytes_eq d.0) (names_of needs)
    has [] = refl
    has (e ∷ needs) = ap (λ b. bytes_eq d.0 e.0 || b) (has needs)

-- ---- what holds of each need

-- what holds of the needs one by one holds of each that is among them
pub each-need : (P : Text → Text → Type 0) (needs : List (Text × Text)) → AllByRecursion (λ (d : Text × Text). P d.0 d.1) needs → (name need : Text) → Contains needs (name, need) → P name need
each-need P needs h name need among = by needs h among.0 among.1 among.2
  where
    by : (ds : List (Text × Text)) → AllByRecursion (λ (d : Text × Text). P d.0 d.1) ds → (i : ℕ) → i < length ds → get_or ds i (name, need) ≡ (name, need) → P name need
    by [] a i lt e = absurd (omega arith)
    by (d ∷ rest) a zero lt e = subst (λ (x : Text × Text). P x.0 x.1) e a.0
    by (d ∷ rest) a (suc i) lt e = by rest a.1 i (omega arith) e
