use Rattle.std.proofs.Common.{◌≡◌, ◌∙◌, List, Bool, true, false, ap, arith, sym}
use Rattle.std.specs.Map.{keys_of}
use Rattle.versions.specs.Words.{Text}
use Rattle.registry.specs.Needs.{repeats}
use Rattle.registry.proofs.RequestLemmas.{request-lawful, request-made, request-many_lines, request-many_needs, request-repeated_line, request-repeated_need}
use Rattle.registry.proofs.requests.Request.new.Goals as goal
use Rattle.registry.proofs.requests.Request.new.Goals.{then-repeats-via-then-repeats, then-repeats-via-else-repeats+then-repeats-2}
use Rattle.registry.proofs.requests.Request.new.Goals.{then-len-gt-NEED_LIMIT-via-then-len-gt-NEED_LIMIT, then-len-gt-NEED_LIMIT-via-else-len-gt-NEED_LIMIT+then-len-gt-LOCK_LIMIT}

-- whether a name comes twice among the lines, as it was told of the same lines
told : {V : Type 0} (lines seen : List (Text × V)) (answer said : Bool) → seen ≡ lines → answer ≡ repeats (keys_of seen) → answer ≡ said → repeats (keys_of lines) ≡ said
told {V} lines seen answer said same e t = ap (λ (l : List (Text × V)). repeats (keys_of l)) (sym same) ∙ sym e ∙ t

pub repeats-requires : goal.repeats-requires
repeats-requires c = rw c.deref-3.ensures.value (rw c.deref-4.ensures.value (rw c.deref.ensures.value at c.in_ok-needs_by_name.ensures))

pub repeats-requires-else-repeats : goal.repeats-requires-else-repeats
repeats-requires-else-repeats c =
    rw c.deref-else-repeats.ensures.value (rw c.deref-else-repeats-2.ensures.value (rw c.deref-2.ensures.value at c.in_ok-lock_by_name.ensures))

pub returns-then-repeats : goal.returns-then-repeats
returns-then-repeats c = elim c.then-repeats.branch [
  | then-repeats-via-then-repeats w ↦
      request-repeated_need c.args.needs.items c.args.lock.items (told c.args.needs.items c.deref-3.result.now c.repeats.result true c.deref-3.ensures.value c.repeats.ensures w.if-repeats.true)
  | then-repeats-via-else-repeats+then-repeats-2 w ↦
      request-repeated_line c.args.needs.items c.args.lock.items
      (told c.args.lock.items w.deref-else-repeats.result.now w.repeats-else-repeats.result true w.deref-else-repeats.ensures.value w.repeats-else-repeats.ensures w.if-repeats-2.true)
]

pub returns-then-len-gt-NEED_LIMIT : goal.returns-then-len-gt-NEED_LIMIT
returns-then-len-gt-NEED_LIMIT c =
    let no_need = told c.args.needs.items c.deref-3.result.now c.repeats.result false c.deref-3.ensures.value c.repeats.ensures c.if-repeats.false in
    let no_line = told c.args.lock.items c.deref-else-repeats.result.now c.repeats-else-repeats.result false c.deref-else-repeats.ensures.value c.repeats-else-repeats.ensures c.if-repeats-2.false in
    elim c.then-len-gt-NEED_LIMIT.branch [
      | then-len-gt-NEED_LIMIT-via-then-len-gt-NEED_LIMIT w ↦
          request-many_needs c.args.needs.items c.args.lock.items no_need no_line (omega (arith, c.args.needs.ok.0, c.len.ensures, w.if-len-gt-NEED_LIMIT.true))
      | then-len-gt-NEED_LIMIT-via-else-len-gt-NEED_LIMIT+then-len-gt-LOCK_LIMIT w ↦
          request-many_lines c.args.needs.items c.args.lock.items no_need no_line (omega (arith, c.args.lock.ok.0, w.len-else-len-gt-NEED_LIMIT.ensures, w.if-len-gt-LOCK_LIMIT.true))
    ]

pub invariant_of-result : goal.invariant_of-result
invariant_of-result c =
    let no_need = told c.args.needs.items c.deref-3.result.now c.repeats.result false c.deref-3.ensures.value c.repeats.ensures c.if-repeats.false in
    let no_line = told c.args.lock.items c.deref-else-repeats.result.now c.repeats-else-repeats.result false c.deref-else-repeats.ensures.value c.repeats-else-repeats.ensures c.if-repeats-2.false in
    record {
      lawful = request-lawful c.args.needs.items c.args.lock.items no_need no_line
          (omega (arith, c.args.needs.ok.0, c.len.ensures)) (omega (arith, c.args.lock.ok.0, c.len-else-len-gt-NEED_LIMIT.ensures));
      needs = rw c.deref.ensures.value at c.in_ok-needs_by_name.ensures;
      lock = rw c.deref-2.ensures.value at c.in_ok-lock_by_name.ensures;
    }

pub returns : goal.returns
returns c =
    let no_need = told c.args.needs.items c.deref-3.result.now c.repeats.result false c.deref-3.ensures.value c.repeats.ensures c.if-repeats.false in
    let no_line = told c.args.lock.items c.deref-else-repeats.result.now c.repeats-else-repeats.result false c.deref-else-repeats.ensures.value c.repeats-else-repeats.ensures c.if-repeats-2.false in
    request-made c.args.needs.items c.args.lock.items
    (request-lawful c.args.needs.items c.args.lock.items no_need no_line
    (omega (arith, c.args.needs.ok.0, c.len.ensures)) (omega (arith, c.args.lock.ok.0, c.len-else-len-gt-NEED_LIMIT.ensures)))
