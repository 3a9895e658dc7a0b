use Rattle.std.proofs.Common.{◌≡◌, ◌<◌, ◌+◌, ◌*◌, ◌/◌, ◌∙◌, ap, arith, length, sym}
use Rattle.std.proofs.lemmas.List.{get_or-set_same, get_or_read}
use Rattle.std.specs.Prelude.{None, slice_index}
use Rattle.walk.specs.Pages.{number_at, PageTable}
use Rattle.walk.proofs.Paging.{number_made, number_more, number_same, paged_made, paged_same, resized_same}
use Rattle.walk.proofs.package_table.PackageTable.make_page.Goals as goal

pub returns-in_err-lengthen-clause-same : goal.returns-in_err-lengthen-clause-same
returns-in_err-lengthen-clause-same c = λ p.
    number_same c.self.inside.pages.items c.lengthen.new.pages.items c.self.inside.numbers.items c.lengthen.ensures.same p
    ∙ ap (λ (t : PageTable). number_at t p) c.self.view_is

pub returns-then-page-gt0-clause-same : goal.returns-then-page-gt0-clause-same
returns-then-page-gt0-clause-same c = λ p.
    number_same c.self.inside.pages.items c.lengthen.new.pages.items c.self.inside.numbers.items c.lengthen.ensures.same p
    ∙ ap (λ (t : PageTable). number_at t p) c.self.view_is

pub returns-in_err-resize-clause-same : goal.returns-in_err-resize-clause-same
returns-in_err-resize-clause-same c = λ p.
    let pages = c.lengthen.new.pages.items in
    let numbers = c.self.inside.numbers.items in
    number_more pages numbers c.resize.new.self.items (resized_same c.resize.result numbers c.resize.new.self.items _ _ None c.resize.ensures.items (omega (arith, c.self.inside.numbers.ok.0))) p
    ∙ number_same c.self.inside.pages.items pages numbers c.lengthen.ensures.same p
    ∙ ap (λ (t : PageTable). number_at t p) c.self.view_is

pub invariant_of-self-2 : goal.invariant_of-self-2
invariant_of-self-2 c =
    let pages = c.lengthen.new.pages.items in
    let numbers = c.self.inside.numbers.items in
    let more = c.resize.new.self.items in
    let index = c.args.index in
    let made = c.len-made.result / 32 in
    let paged = paged_same c.self.inside.pages.items pages numbers c.lengthen.ensures.same c.self.invariant in
    let there : index < length pages = omega (arith, c.in_ok-lengthen.ensures.long) in
    let page : c.index-page.result.now ≡ slice_index pages index = get_or_read pages index c.index-page.result.now there c.index-page.ensures 0 in
    let none : slice_index pages index ≡ 0 = omega arith in
    let behind : 32 * made ≡ length numbers = omega (arith, paged.whole.1, c.len-made.ensures, c.self.inside.numbers.ok.0) in
    let longer : length more ≡ length numbers + 32 = omega (arith, c.in_ok-resize.ensures.len, c.self.inside.numbers.ok.0, c.resize.new.self.ok.0, c.len.ensures) in
    paged_made pages numbers paged index made more none there behind longer
    (resized_same c.resize.result numbers more _ _ None c.resize.ensures.items (omega (arith, c.self.inside.numbers.ok.0)))

pub returns : goal.returns
returns c =
    let pages = c.lengthen.new.pages.items in
    let numbers = c.self.inside.numbers.items in
    let more = c.resize.new.self.items in
    let index = c.args.index in
    let made = c.len-made.result / 32 in
    let paged = paged_same c.self.inside.pages.items pages numbers c.lengthen.ensures.same c.self.invariant in
    let there : index < length pages = omega (arith, c.in_ok-lengthen.ensures.long) in
    let page : c.index-page.result.now ≡ slice_index pages index = get_or_read pages index c.index-page.result.now there c.index-page.ensures 0 in
    let none : slice_index pages index ≡ 0 = omega arith in
    let behind : 32 * made ≡ length numbers = omega (arith, paged.whole.1, c.len-made.ensures, c.self.inside.numbers.ok.0) in
    let longer : length more ≡ length numbers + 32 = omega (arith, c.in_ok-resize.ensures.len, c.self.inside.numbers.ok.0, c.resize.new.self.ok.0, c.len.ensures) in
    record {
      same = λ p.
          number_made pages numbers paged index made more none there behind longer
          (resized_same c.resize.result numbers more _ _ None c.resize.ensures.items (omega (arith, c.self.inside.numbers.ok.0))) p
          ∙ number_same c.self.inside.pages.items pages numbers c.lengthen.ensures.same p
          ∙ ap (λ (t : PageTable). number_at t p) c.self.view_is;
      page = sym (get_or-set_same pages index made 0 there);
      made = omega (arith, paged.within 0, behind);
    }
