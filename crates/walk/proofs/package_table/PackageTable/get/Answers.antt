use Rattle.std.proofs.Common.{◌≡◌, ◌∙◌, ◌+◌, ◌*◌, ◌/◌, ◌%◌, ap, arith, get_or, sym}
use Rattle.std.proofs.lemmas.List.{get_or_read}
use Rattle.std.specs.Prelude.{None, slice_index}
use Rattle.walk.specs.Pages.{number_at, number_in, PageTable}
use Rattle.walk.proofs.Paging.{within}
use Rattle.walk.proofs.package_table.PackageTable.get.Goals as goal

pub index-requires : goal.index-requires
index-requires c =
    let pages = c.self.inside.pages.items in
    let page : c.page_of-page.result ≡ slice_index pages (c.args.pkg / 32) = c.page_of-page.ensures ∙ ap (λ (t : PageTable). slice_index t.pages (c.args.pkg / 32)) (sym c.self.view_is) in
    omega (arith, within pages c.self.inside.numbers.items c.self.invariant c.args.pkg, page, c.self.inside.numbers.ok.0)

pub returns : goal.returns
unfolding number_in
returns c =
    let pages = c.self.inside.pages.items in
    let numbers = c.self.inside.numbers.items in
    let page : c.page_of-page.result ≡ slice_index pages (c.args.pkg / 32) = c.page_of-page.ensures ∙ ap (λ (t : PageTable). slice_index t.pages (c.args.pkg / 32)) (sym c.self.view_is) in
    get_or_read numbers _ c.index.result.now (omega (arith, within pages numbers c.self.invariant c.args.pkg, page)) c.index.ensures None
    ∙ ap (λ n. get_or numbers (32 * n + c.args.pkg % 32) None) page
    ∙ ap (λ (t : PageTable). number_at t c.args.pkg) c.self.view_is
