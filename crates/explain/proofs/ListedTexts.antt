-- Texts one behind another, as they are put.
use Rattle.std.proofs.Common.{◌≡◌, ◌∙◌, ℕ, zero, suc, ◌+◌, add-one, List, [], ◌∷◌, ◌++◌, take, map, Bool, true, false, ◌||◌, nat_eq, nat_lt, Some, None, Option, codes, decimal, refl, sym, ap, arith, rules}
use Rattle.std.specs.List.{slice_get}
use Rattle.std.specs.Option.{option_map}
use Rattle.std.proofs.lemmas.List.{append-nil, append_assoc, map-append}
use Rattle.std.proofs.lemmas.Bool.{or_right}
use Rattle.versions.specs.Words.{Text}
use Rattle.registry.specs.Registry.{Package, Packages, package_at, publication_at}
use Rattle.registry.specs.Requests.{Wanted}
use Rattle.derivations.specs.Lines.{Line}
use Rattle.explain.specs.Choices.{listed, listed_after, name_or_none, package_text, separator, version_or_number, version_text}
use Rattle.explain.specs.Explanations.{line_text, numbered_from}

regroup : (a b c d : Text) → a ++ (b ++ (c ++ d)) ≡ (a ++ (b ++ c)) ++ d
regroup a b c d = simp append_assoc

-- one text more
pub listed-next : {A : Type 0} (text : A → Text) (later : Bool) (xs : List A) (i : ℕ) (x : A) → slice_get xs i ≡ Some x
    → listed_after later (map text (take (i + 1) xs)) ≡ listed_after later (map text (take i xs)) ++ (separator (later || nat_lt 0 i) ++ text x)
listed-next text later xs i x here = rw add-one (next text later xs i x here)
  where
    next : {A : Type 0} (text : A → Text) (later : Bool) (xs : List A) (i : ℕ) (x : A) → slice_get xs i ≡ Some x
        → listed_after later (map text (take (suc i) xs)) ≡ listed_after later (map text (take i xs)) ++ (separator (later || nat_lt 0 i) ++ text x)
    next text later [] i x here = absurd (cc)
    next text true (y ∷ xs) zero x here = let same : y ≡ x = cc in rw (same, append-nil) refl
    next text false (y ∷ xs) zero x here = let same : y ≡ x = cc in rw (same, append-nil) refl
    next text later (y ∷ xs) (suc i) x here =
        let positive : nat_lt 0 (suc i) ≡ true = search rules in
        rw (positive, or_right later true refl)
        (ap (λ l. separator later ++ (text y ++ l)) (next text true xs i x here) ∙ regroup (separator later) (text y) _ _)

-- what stands before, with one text more behind it
pub put-next : {A : Type 0} (text : A → Text) (xs : List A) (i : ℕ) (x : A) (before here after : Text) → slice_get xs i ≡ Some x
    → here ≡ before ++ listed (map text (take i xs)) → after ≡ here ++ (separator (nat_lt 0 i) ++ text x)
    → after ≡ before ++ listed (map text (take (i + 1) xs))
put-next text xs i x before here after at so_far more =
    more ∙ ap (λ (l : Text). l ++ (separator (nat_lt 0 i) ++ text x)) so_far
    ∙ append_assoc before (listed (map text (take i xs))) (separator (nat_lt 0 i) ++ text x)
    ∙ ap (λ (l : Text). before ++ l) (sym (listed-next text false xs i x at))

-- one line more
pub numbered-next : (packages : Packages) (wanted : Wanted) (n : ℕ) (lines : List Line) (i : ℕ) (line : Line) → slice_get lines i ≡ Some line
    → numbered_from packages wanted n (take (i + 1) lines) ≡ numbered_from packages wanted n (take i lines) ++ line_text packages wanted (n + i) line ∷ []
numbered-next packages wanted n lines i line here = rw add-one (next n lines i here)
  where
    next : (n : ℕ) (lines : List Line) (i : ℕ) → slice_get lines i ≡ Some line
        → numbered_from packages wanted n (take (suc i) lines) ≡ numbered_from packages wanted n (take i lines) ++ line_text packages wanted (n + i) line ∷ []
    next n [] i here = absurd (cc)
    next n (x ∷ lines) zero here =
        let same : x ≡ line = cc in
        let place : n + 0 ≡ n = omega arith in
        rw (same, place) refl
    next n (x ∷ lines) (suc i) here =
        let place : n + suc i ≡ suc n + i = omega arith in
        rw place (ap (λ (l : List Text). line_text packages wanted n x ∷ l) (next (suc n) lines i here))

-- the list that was made so far, with one line more behind it
pub numbered-push : {A : Type 0} (bytes : A → Text) (packages : Packages) (wanted : Wanted) (lines : List Line) (i : ℕ) (line : Line) (before after : List A) (made : A) → slice_get lines i ≡ Some line
    → map bytes before ≡ numbered_from packages wanted 1 (take i lines) → after ≡ before ++ made ∷ [] → bytes made ≡ line_text packages wanted (i + 1) line
    → map bytes after ≡ numbered_from packages wanted 1 (take (i + 1) lines)
numbered-push bytes packages wanted lines i line before after made at so_far pushed is =
    let place : i + 1 ≡ 1 + i = omega arith in
    ap (map bytes) pushed ∙ map-append bytes before (made ∷ []) ∙ ap (λ (l : List Text). l ++ bytes made ∷ []) so_far
    ∙ ap (λ (t : Text). numbered_from packages wanted 1 (take i lines) ++ t ∷ []) (is ∙ ap (λ (n : ℕ). line_text packages wanted n line) place)
    ∙ sym (numbered-next packages wanted 1 lines i line at)

-- ---- versions

-- a version that is not published is its number after a mark
pub unpublished_text : (packages : Packages) (p k : ℕ) → publication_at packages p k ≡ None → version_text packages p k ≡ codes "#" ++ decimal k
unpublished_text packages p k none = ap (version_or_number k) none

-- a package that has a name is told by it
pub named : (packages : Packages) (p : ℕ) (name : Text) → (p ≡ 0 → ⊥) → Some name ≡ option_map (λ (x : Package). x.name) (package_at packages p) → package_text packages p ≡ name
named packages zero name other is = absurd (other refl)
named packages (suc n) name other is =
    let no : nat_eq (suc n) 0 ≡ false = search rules in
    rw no (by (package_at packages (suc n)) is)
  where
    by : (o : Option Package) → Some name ≡ option_map (λ (x : Package). x.name) o → name_or_none o ≡ name
    by None e = absurd (cc)
    by (Some x) e = let same : x.name ≡ name = cc in same

-- and one that has none by nothing
pub unnamed : (packages : Packages) (p : ℕ) → (p ≡ 0 → ⊥) → None ≡ option_map (λ (x : Package). x.name) (package_at packages p) → package_text packages p ≡ []
unnamed packages zero other is = absurd (other refl)
unnamed packages (suc n) other is =
    let no : nat_eq (suc n) 0 ≡ false = search rules in
    rw no (by (package_at packages (suc n)) is)
  where
    by : (o : Option Package) → None ≡ option_map (λ (x : Package). x.name) o → name_or_none o ≡ []
    by None e = refl
    by (Some x) e = absurd (cc)
