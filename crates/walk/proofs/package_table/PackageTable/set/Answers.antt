use Rattle.std.proofs.Common.{◌≡◌, ◌∙◌, ◌/◌, ℕ, ap, nat_eq, if◌then◌else◌, sym}
use Rattle.std.specs.Prelude.{Option, Some, slice_index}
use Rattle.walk.specs.Pages.{number_at, PageTable}
use Rattle.walk.proofs.Paging.{written_at}
use Rattle.walk.proofs.package_table.PackageTable.set.Goals as goal

pub returns-clause-ok : goal.returns-clause-ok
returns-clause-ok c = λ p.
    let pages = c.self.inside.pages.items in
    let numbers = c.self.inside.numbers.items in
    let page : c.in_ok-page.page ≡ slice_index pages (c.args.pkg / 32) = c.in_ok-page.ensures.page ∙ ap (λ (t : PageTable). slice_index t.pages (c.args.pkg / 32)) (sym c.self.view_is) in
    written_at pages numbers c.self.invariant c.in_ok-page.page c.args.pkg (Some c.args.number) page c.in_ok-page.ensures.made p
    ∙ ap (λ (x : Option ℕ). if nat_eq p c.args.pkg then Some c.args.number else x) (ap (λ (t : PageTable). number_at t p) c.self.view_is ∙ c.make_page.ensures.same p)
