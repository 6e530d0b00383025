-- The command line: IMAGE [--size N] [--inodes N] [--version N] [--migrate OLD] [--force] [FILE..], and what it gives.
use Rattle.std.specs.Prelude.{◌≡◌, ℕ, ◌-◌, ◌^◌, ◌<◌, List, [], ◌∷◌, Some, true, codes, pos}
use Rattle.clap.specs.declared.builder.action.ArgAction.TheVariants as actions
use Rattle.image_versions.specs.Versions.{number_of}
use Rattle.mkfs.specs.Vocabulary.{One, Two, Version, version_of_number, IsNumeral, digits_value, without_leading_plus, usize_max, App, Rule, Text, found_of, new_app, new_rule, one_text, with_rule, Set, SetTrue, Signed, ArgMatches}

-- the file to write
abbrev pub image_rule : Rule
image_rule = record (new_rule (codes "image")) { action = Some Set; value_names = 1; required = true }

-- the greatest number that an option may have: a u32's
abbrev pub greatest_number : ℕ
greatest_number = 2 ^ 32 - 1

-- an option with such a number and a default
abbrev pub number_rule : Text → Text → Rule
number_rule id default = record (new_rule id) {
  long = Some id;
  value_names = 1;
  defaults = default ∷ [];
  parser = Some (Signed (pos 0) (pos greatest_number));
}

-- the number of a version
abbrev pub version_rule : Rule
version_rule = record (number_rule (codes "version") (codes "1")) { parser = Some (Signed (pos (number_of One)) (pos (number_of Two))) }

-- the image to migrate
abbrev pub migrate_rule : Rule
migrate_rule = record (new_rule (codes "migrate")) { long = Some (codes "migrate"); value_names = 1 }

-- a file that is no image is replaced too
abbrev pub force_rule : Rule
force_rule = record (new_rule (codes "force")) { long = Some (codes "force"); action = Some SetTrue }

-- the program says what it is
abbrev pub about_rule : Rule
about_rule = record (new_rule (codes "about")) { short = Some 86; long = Some (codes "about"); action = Some actions.Version }

-- any number of files
abbrev pub files_rule : Rule
files_rule = record (new_rule (codes "files")) {
  range = Some (record { start_inclusive = 0; end_inclusive = usize_max });
  value_names = 1;
}

-- the program's name, with a version that has no flag of its own
abbrev pub mkfs_app : App
mkfs_app = let app = new_app (codes "mkfs") in record app { top = record app.top { has_version = true; disable_version_flag = true } }

-- with the image and its sizes
abbrev pub sized_app : App
sized_app =
    with_rule (with_rule (with_rule mkfs_app image_rule) (number_rule (codes "size") (codes "2000"))) (number_rule (codes "inodes") (codes "200"))

-- and how it is made
abbrev pub versioned_app : App
versioned_app = with_rule (with_rule (with_rule sized_app version_rule) migrate_rule) force_rule

-- the whole command line
abbrev pub mkfs_line : App
mkfs_line = with_rule (with_rule versioned_app about_rule) files_rule

-- the number of a decimal text, which may begin with one `+`
abbrev pub number_in : List ℕ → ℕ
number_in text = digits_value 10 (without_leading_plus text)

-- the first value of this option is there, and is the text of a u32
pub record HasNumber (matches : ArgMatches) (id : List ℕ) : Type 0 where
  pub text : List ℕ
  pub there : one_text (found_of matches) id ≡ Some text
  pub numeral : IsNumeral 10 (without_leading_plus text)
  pub fits : number_in text < 2 ^ 32

-- the first value of "version" is there, and is the number of a version
pub record HasVersion (matches : ArgMatches) : Type 0 where
  pub number : HasNumber matches (codes "version")
  pub version : Version
  pub known : version_of_number (number_in number.text) ≡ Some version
