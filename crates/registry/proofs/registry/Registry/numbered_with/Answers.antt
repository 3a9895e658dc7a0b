use Rattle.std.proofs.Common.{◌∙◌, ◌≡◌, ◌+◌, ap, sym, length, arith, not, if◌then◌else◌, Bool}
use Rattle.std.specs.Prelude.{count_by}
use Rattle.versions.specs.Words.{Text}
use Rattle.registry.specs.Registry.{Packages, is_known}
use Rattle.registry.specs.Rooms.{State}
use Rattle.registry.specs.Step.{with_named}
use Rattle.registry.specs.Publications.{PublicationList, lists_of, packages_of}
use Rattle.registry.proofs.PackageLemmas.{is_known-packages_of, length-mapped, length-numbered, length-packages_of, new_count}
use Rattle.registry.proofs.registry.Registry.numbered_with.Goals as goal
use Rattle.registry.proofs.registry.Registry.numbered_with.Goals.{then-known, else-known}

pub returns : goal.returns
returns c =
    let lists = lists_of c.self.inside.lists.items in
    let names = c.self.inside.names.keys in
    let both = c.self.invariant.0 ∙ sym (length-mapped (λ (v : PublicationList). v.publications) c.self.inside.lists.items) in
    let packages : Packages = packages_of names lists in
    let whole = length-numbered packages c.args.name.now c.args.needs.now c.requires.apart c.requires.once in
    let many = length-packages_of names lists both in
    let known : is_known packages c.args.name.now ≡ c.contains-known.result = is_known-packages_of names lists c.args.name.now both ∙ sym c.contains-known.ensures in
    let own : c.if-known.own ≡ (if not (is_known packages c.args.name.now) then 1 else 0) =
    elim c.if-known.branch [
      | then-known w ↦ w.own-is ∙ sym (ap (λ (b : Bool). if not b then 1 else 0) (known ∙ w.if-known.true))
      | else-known w ↦ w.own-is ∙ sym (ap (λ (b : Bool). if not b then 1 else 0) (known ∙ w.if-known.false))
    ] in
    let others : c.count_new.result ≡ new_count packages c.args.needs.now =
    c.count_new.ensures.count ∙ sym (ap (λ (f : Text → Bool). count_by (λ (d : Text × Text). not (f d.0)) c.args.needs.now) (λ i name. is_known-packages_of names lists name both i)) in
    let seen : length (with_named packages c.args.name.now c.args.needs.now) ≡ c.len.result + c.if-known.own + c.count_new.result = omega (arith, whole, many, own, others, c.len.ensures.len) in
    sym seen ∙ ap (λ (s : State). length (with_named s.packages c.args.name.now c.args.needs.now)) c.self.view_is
