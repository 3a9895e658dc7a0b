-- What reading a text gives: the text itself, or the refusal of a text that is not of its kind.
use Rattle.std.specs.Prelude.{Result, Ok, Err, if◌then◌else◌}
use Rattle.versions.specs.Words.{Text, is_name, is_requirement, is_version}
use Rattle.versions.specs.declared.refusal.Refusal.{Refusal}
use Rattle.versions.specs.declared.refusal.Refusal.TheVariants.{BadName, BadRequirement, BadVersion}

-- the name that a text is
abbrev pub name_in : Text → Result Text Refusal
name_in text = if is_name text then Ok text else Err BadName

-- the version that a text is
abbrev pub version_in : Text → Result Text Refusal
version_in text = if is_version text then Ok text else Err BadVersion

-- the requirement that a text is
abbrev pub need_in : Text → Result Text Refusal
need_in text = if is_requirement text then Ok text else Err BadRequirement
