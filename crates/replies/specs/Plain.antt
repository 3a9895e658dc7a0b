-- Texts that JSON writes as they are.
use Rattle.std.specs.Prelude.{◌≡◌, true}
use Rattle.std.specs.Str.{IsUtf8}
use Rattle.json.specs.Print.{escape}
use Rattle.versions.specs.Words.{Text, is_name, is_requirement, is_version}

-- no byte of a name, a version or a requirement is escaped
pub record NeedNoEscapes : Type 0 where
  pub names : (text : Text) → is_name text ≡ true → escape text ≡ text
  pub versions : (text : Text) → is_version text ≡ true → escape text ≡ text
  pub requirements : (text : Text) → is_requirement text ≡ true → escape text ≡ text

-- names, versions and requirements are UTF-8
pub record AreUtf8 : Type 0 where
  pub names : (text : Text) → is_name text ≡ true → IsUtf8 text
  pub versions : (text : Text) → is_version text ≡ true → IsUtf8 text
  pub requirements : (text : Text) → is_requirement text ≡ true → IsUtf8 text
