use Rattle.std.proofs.Common.{◌≡◌, ℕ, List, ◌++◌, ap, sym, codes, append_assoc, ◌∙◌}
use Rattle.std.proofs.lemmas.Result.{err_from_is_err_and}
use Rattle.registryd.specs.Faults.{colon_text, fault_text, name_text, said_text, what_text}
use Rattle.registryd.proofs.WriteLemmas.{begins_second, ends_with, stops_at, writes_both}
use Rattle.registryd.proofs.written.write_fault.Goals as goal

pub returns-in_err-write_between-clause-written : goal.returns-in_err-write_between-clause-written
returns-in_err-write_between-clause-written g c =
    let err = err_from_is_err_and c.from_residual.result c.from_residual.ensures.1 in
    let fault = c.args.fault.now in
    stops_at _ _ (name_text c.as_slice-name.result.now) (what_text fault.what ++ said_text fault.words.items) (fault_text fault) _ c.from_residual.result
    (ap (λ (n : List ℕ). name_text n ++ (what_text fault.what ++ said_text fault.words.items)) c.as_slice-name.ensures.value) err.1 c.in_err-write_between.ensures.written

pub returns-in_err-write_what-clause-written : goal.returns-in_err-write_what-clause-written
returns-in_err-write_what-clause-written g c =
    let err = err_from_is_err_and c.from_residual-in_err-write_what.result c.from_residual-in_err-write_what.ensures.1 in
    let fault = c.args.fault.now in
    let name = c.as_slice-name.result.now in
    stops_at _ _ (name_text name ++ what_text fault.what) (said_text fault.words.items) (fault_text fault) _ c.from_residual-in_err-write_what.result
    (append_assoc (name_text name) (what_text fault.what) (said_text fault.words.items)
    ∙ ap (λ (n : List ℕ). name_text n ++ (what_text fault.what ++ said_text fault.words.items)) c.as_slice-name.ensures.value) err.1
    (begins_second (g.W.Write.contents c.args.writer.now) (g.W.Write.contents c.write_between.new.writer) (g.W.Write.contents c.write_what.new.writer) (name_text name) (what_text fault.what)
    c.in_ok-write_between.ensures.written c.in_err-write_what.ensures.written)

pub returns-clause-written : goal.returns-clause-written
returns-clause-written g c =
    let fault = c.args.fault.now in
    let name = c.as_slice-name.result.now in
    let words = c.as_slice-words.result.now in
    let colon : c.as_bytes.result.now ≡ colon_text words = c.as_bytes.ensures.value ∙ c.colon_before.ensures in
    let whole : (name_text name ++ what_text fault.what) ++ (c.as_bytes.result.now ++ (words ++ codes "\n")) ≡ fault_text fault
    = append_assoc (name_text name) (what_text fault.what) (c.as_bytes.result.now ++ (words ++ codes "\n"))
    ∙ ap (λ (n : List ℕ). name_text n ++ (what_text fault.what ++ (c.as_bytes.result.now ++ (words ++ codes "\n")))) c.as_slice-name.ensures.value
    ∙ ap (λ (l : List ℕ). name_text fault.name.items ++ (what_text fault.what ++ (l ++ (words ++ codes "\n")))) colon
    ∙ ap (λ (l : List ℕ). name_text fault.name.items ++ (what_text fault.what ++ said_text l)) c.as_slice-words.ensures.value in
    ends_with (g.W.Write.contents c.args.writer.now) (g.W.Write.contents c.write_what.new.writer) (g.W.Write.contents c.write_between-2.new.writer)
    (name_text name ++ what_text fault.what) (c.as_bytes.result.now ++ (words ++ codes "\n")) (fault_text fault) c.write_between-2.result whole
    (writes_both (g.W.Write.contents c.args.writer.now) (g.W.Write.contents c.write_between.new.writer) (g.W.Write.contents c.write_what.new.writer) (name_text name) (what_text fault.what)
    c.in_ok-write_between.ensures.written c.in_ok-write_what.ensures.written)
    c.write_between-2.ensures.written
