use Rattle.std.proofs.Common.{◌≡◌, ◌∙◌, ◌+◌, ◌*◌, ◌/◌, ◌%◌, ℕ, ap, arith, nat_eq, if◌then◌else◌, set, subst, sym}
use Rattle.std.specs.Prelude.{None, Option, slice_index}
use Rattle.walk.specs.Pages.{number_at, number_in, PageTable}
use Rattle.walk.proofs.Paging.{unmade_same, written_at}
use Rattle.walk.proofs.package_table.PackageTable.set_back.Goals as goal

pub returns-then-page-gt0 : goal.returns-then-page-gt0
returns-then-page-gt0 c = λ none p.
    let pages = c.self.inside.pages.items in
    let numbers = c.self.inside.numbers.items in
    let pkg = c.args.pkg in
    let page : c.page_of-page.result ≡ slice_index pages (pkg / 32) = c.page_of-page.ensures ∙ ap (λ (t : PageTable). slice_index t.pages (pkg / 32)) (sym c.self.view_is) in
    ap (λ (v : Option ℕ). number_in pages (set numbers (32 * c.page_of-page.result + pkg % 32) v) p) none
    ∙ written_at pages numbers c.self.invariant c.page_of-page.result pkg None page c.if-page-gt0.true p
    ∙ ap (λ (x : Option ℕ). if nat_eq p pkg then None else x) (ap (λ (t : PageTable). number_at t p) c.self.view_is)

pub returns-else-page-gt0 : goal.returns-else-page-gt0
returns-else-page-gt0 c = λ none p.
    let pages = c.self.inside.pages.items in
    let numbers = c.self.inside.numbers.items in
    let pkg = c.args.pkg in
    let page : c.page_of-page.result ≡ slice_index pages (pkg / 32) = c.page_of-page.ensures ∙ ap (λ (t : PageTable). slice_index t.pages (pkg / 32)) (sym c.self.view_is) in
    subst (λ (t : PageTable). number_at t p ≡ (if nat_eq p pkg then None else number_at t p)) c.self.view_is
    (unmade_same pages numbers c.self.invariant pkg (omega (arith, page, c.if-page-gt0.false)) p)
