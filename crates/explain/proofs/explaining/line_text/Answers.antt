use Rattle.std.proofs.Common.{append_assoc}
use Rattle.explain.specs.Explanations.{line_text}
use Rattle.explain.proofs.explaining.line_text.Goals as goal

pub returns : goal.returns
unfolding line_text
returns c =
    rw (
      c.in_ok-put_cause-2.ensures,
      c.in_ok-push_str-3.ensures.bytes,
      c.in_ok-put_cause.ensures,
      c.in_ok-push_str-2.ensures.bytes,
      c.in_ok-put_terms.ensures,
      c.in_ok-push_str.ensures.bytes,
      c.in_ok-put_number.ensures,
      c.new-text.ensures.bytes,
      c.terms.ensures.same,
    ) (simp append_assoc)
