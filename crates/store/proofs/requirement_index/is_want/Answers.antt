use Rattle.std.proofs.Common.{◌∙◌, refl, rules, sym}
use Rattle.std.proofs.lemmas.Option.{slice_get_read}
use Rattle.std.proofs.lemmas.Slice.Eq.{bytes_eq-Decides}
use Rattle.store.proofs.requirement_index.is_want.Goals as goal

pub returns-then-want-target : goal.returns-then-want-target
returns-then-want-target c = λ t. record {
  want = c.in-Some.want.now;
  at = slice_get_read c.args.wants.now _ c.args.place c.in-Some.want.now refl c.in-Some.ensures.lookup.3.0 c.in-Some.ensures.lookup.1;
  target_is = search rules;
  need_is = (bytes_eq-Decides _ _).0 (sym c.eq.ensures ∙ t);
}
