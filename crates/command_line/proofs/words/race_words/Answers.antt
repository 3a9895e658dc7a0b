use Rattle.std.proofs.Common.{◌≡◌, ◌∙◌, codes, sym, ap, length, List, ℕ, Some, arith, string_bytes, Bor, String, Global, map}
use Rattle.std.proofs.lemmas.List.{length-map}
use Rattle.std.proofs.lemmas.Result.{IfOk-from_err}
use Rattle.clap.specs.Words.{found_of, Text}
use Rattle.clap.proofs.WalkLemmas.{raw_values-rows}
use Rattle.command_line.proofs.words.race_words.Goals as goal

some_same : (xs ys : List Text) → Some xs ≡ Some ys → xs ≡ ys
some_same xs ys is = cc

pub unreachable-requires : goal.unreachable-requires
unreachable-requires c =
    let given = c.requires in
    let none = c.in_default.ensures ∙ raw_values-rows (found_of c.args.given.now) (codes "files") ∙ given.1 in cc

pub returns-then-files-gt-MOST_FILES-clause-bad : goal.returns-then-files-gt-MOST_FILES-clause-bad
returns-then-files-gt-MOST_FILES-clause-bad c = λ _. (
  _,
  sym (c.in-Some.ensures ∙ raw_values-rows (found_of c.args.given.now) (codes "files")),
  omega (arith, c.if-files-gt-MOST_FILES.true, length-map c.in-Some.files.now (λ (t : Bor (List ℕ)). t.now)),
)

pub returns-clause-ok : goal.returns-clause-ok
returns-clause-ok c =
    let given = c.requires in
    let all = c.in_ok-files.ensures in
    let whole : Some (map (λ (s : String Global). string_bytes s) c.in_ok-files.files.items) ≡ Some given.0
    = ap (λ (l : List Text). Some l) all ∙ c.in-Some.ensures ∙ raw_values-rows (found_of c.args.given.now) (codes "files") ∙ given.1 in
    let same = some_same _ _ whole in
    let len : length c.in_ok-files.files.items ≡ length given.0 = sym (length-map c.in_ok-files.files.items (λ (s : String Global). string_bytes s)) ∙ ap length same in
    let most : length c.in_ok-files.files.items ≡ length c.in-Some.files.now
    = sym (length-map c.in_ok-files.files.items (λ (s : String Global). string_bytes s)) ∙ ap length all ∙ length-map c.in-Some.files.now (λ (t : Bor (List ℕ)). t.now) in
    (omega (arith, len, given.2), omega (arith, most, c.if-files-gt-MOST_FILES.false), whole ∙ sym given.1)

pub returns-in_err-files-clause-ok : goal.returns-in_err-files-clause-ok
returns-in_err-files-clause-ok c = IfOk-from_err c.from_residual.result _ c.from_residual.ensures.0
