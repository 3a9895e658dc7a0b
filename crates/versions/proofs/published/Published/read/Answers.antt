use Rattle.std.proofs.Common.{◌≡◌, ◌≤◌, ◌<◌, ◌⊎◌, ap, Err, Ok, false, if◌then◌else◌, inl, inr, length, refl, rules, true}
use Rattle.std.specs.Prelude.{nat_le}
use Rattle.semver.specs.Parse.{memory_error, version_parts}
use Rattle.semver.specs.declared.error.Error.{Error}
use Rattle.versions.specs.Readings.{version_in}
use Rattle.versions.specs.Refusals.{Refuses}
use Rattle.versions.specs.Words.{Text, is_version}
use Rattle.versions.specs.declared.published.TheConstants.{VERSION_TEXT_LIMIT}
use Rattle.versions.specs.declared.refusal.Refusal.{Refusal}
use Rattle.versions.specs.declared.refusal.Refusal.TheVariants.{BadVersion, NoMemory}
use Rattle.versions.proofs.ReadingLemmas.{refused_version}
use Rattle.versions.proofs.published.Published.read.Goals as goal

-- a text that is too long is no version
too_long : (text : Text) → VERSION_TEXT_LIMIT < length text → is_version text ≡ false
too_long text long = let above : nat_le (length text) VERSION_TEXT_LIMIT ≡ false = search rules in rw above refl

-- nor is one that the reader refuses
not_read : (text : Text) (fault : Error) → length text ≤ VERSION_TEXT_LIMIT → version_parts text ≡ Err fault → is_version text ≡ false
not_read text fault short refused = let within : nat_le (length text) VERSION_TEXT_LIMIT ≡ true = search rules in rw (within, refused) refl

refused_by : (text : Text) → is_version text ≡ false → version_in text ≡ Err BadVersion
refused_by text fails = ap (λ b. if b then Ok text else Err BadVersion) fails

-- a fault of the reader is lack of memory, or the text is refused
refuses : (text : Text) (answer : Refusal) (fault : Error) → length text ≤ VERSION_TEXT_LIMIT → (fault ≡ memory_error) ⊎ (version_parts text ≡ Err fault)
    → (fault ≡ memory_error → answer ≡ NoMemory) → (is_version text ≡ false → answer ≡ BadVersion) → Refuses answer (version_in text)
refuses text answer fault short (inl same) memory bad = rw (memory same) tt
refuses text answer fault short (inr refused) memory bad = let fails = not_read text fault short refused in rw (bad fails) (refused_by text fails)

pub returns-then-text-gt-VERSION_TEXT_LIMIT-clause-gives : goal.returns-then-text-gt-VERSION_TEXT_LIMIT-clause-gives
returns-then-text-gt-VERSION_TEXT_LIMIT-clause-gives c = refused_by c.args.text.now (too_long c.args.text.now c.if-text-gt-VERSION_TEXT_LIMIT.true)

pub returns-then-text-gt-VERSION_TEXT_LIMIT-clause-refused : goal.returns-then-text-gt-VERSION_TEXT_LIMIT-clause-refused
returns-then-text-gt-VERSION_TEXT_LIMIT-clause-refused c = (λ _. too_long c.args.text.now c.if-text-gt-VERSION_TEXT_LIMIT.true, λ _. refl)

pub returns-in-Err-clause-gives : goal.returns-in-Err-clause-gives
returns-in-Err-clause-gives c =
    let told =
    refused_version c.args.text.now c.parse.result c.in-Err.fault c.refusal_of.result c.if-text-gt-VERSION_TEXT_LIMIT.false
    c.in-Err.is c.in-Err.ensures.err c.parse.ensures.refused c.refusal_of.ensures.memory c.refusal_of.ensures.bad in
    refuses c.args.text.now c.refusal_of.result c.in-Err.fault c.if-text-gt-VERSION_TEXT_LIMIT.false c.in-Err.ensures.err c.refusal_of.ensures.memory told.1

pub returns-in-Err-clause-refused : goal.returns-in-Err-clause-refused
returns-in-Err-clause-refused c =
    let told =
    refused_version c.args.text.now c.parse.result c.in-Err.fault c.refusal_of.result c.if-text-gt-VERSION_TEXT_LIMIT.false
    c.in-Err.is c.in-Err.ensures.err c.parse.ensures.refused c.refusal_of.ensures.memory c.refusal_of.ensures.bad in
    (λ e. told.0 (cc e), λ e. ap (λ r. Err r) (told.1 e))
