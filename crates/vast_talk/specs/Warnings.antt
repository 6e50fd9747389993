-- What a lint tells of calls, as JSON. A text is a list of bytes.
use Rattle.std.specs.Prelude.{◌≡◌, ℕ, ◌≢◌, ◌⊎◌, List, [], ◌∷◌, ◌++◌, codes, Option, Some, None, String, string_bytes}
use Rattle.std.specs.declared.alloc.Global.{Global}
use Rattle.vast_session.specs.Replies.{line_front, text_member}
use Rattle.vast_talk.specs.declared.warnings.LineWarning.{LineWarning}

-- The text that shows a warning, if one does.
abbrev pub shown_member : Option (String Global) → List ℕ
shown_member None = []
shown_member (Some text) = text_member (codes ",\"text\":") (string_bytes text)

-- Where a warning is shown: its line, its call and the text.
abbrev pub warning_front : LineWarning → List ℕ
warning_front warning = line_front warning.line ++ text_member (codes ",\"call\":") (string_bytes warning.call) ++ shown_member warning.text

-- A rule in words: why, and which tools refuse it.
abbrev pub rule_members : (why tools : List ℕ) → List ℕ
rule_members why tools = text_member (codes ",\"why\":") why ++ text_member (codes ",\"tools\":") tools ++ codes "}"

-- A warning, with its rule in some words.
abbrev pub IsWarningObject : LineWarning → (object : List ℕ) → Type 0
IsWarningObject warning object = (why : List ℕ) × (tools : List ℕ) × (object ≡ warning_front warning ++ rule_members why tools)

-- Warnings, each after a comma.
abbrev pub AreMoreWarnings : List LineWarning → (text : List ℕ) → Type 0
AreMoreWarnings [] text = text ≡ []
AreMoreWarnings (warning ∷ warnings) text =
    (object : List ℕ) × (more : List ℕ) × IsWarningObject warning object × AreMoreWarnings warnings more × (text ≡ codes "," ++ object ++ more)

-- A list of warnings.
abbrev pub IsWarningList : List LineWarning → (list : List ℕ) → Type 0
IsWarningList [] list = list ≡ codes "[]"
IsWarningList (warning ∷ warnings) list =
    (object : List ℕ) × (more : List ℕ) × IsWarningObject warning object × AreMoreWarnings warnings more × (list ≡ codes "[" ++ object ++ more ++ codes "]")

-- A line of JSON without the end of its object, if it has one.
abbrev pub IsWithoutEnd : (line front : List ℕ) → Type 0
IsWithoutEnd line front = (line ≡ front ++ codes "}\n") ⊎ ((front ≡ line) × ((other : List ℕ) → line ≢ other ++ codes "}\n"))

-- The text is the line of JSON, with the warnings as its last member.
abbrev pub HasWarnings : (line : List ℕ) → List LineWarning → (text : List ℕ) → Type 0
HasWarnings line warnings text =
    (front : List ℕ) × (list : List ℕ) × IsWithoutEnd line front × IsWarningList warnings list × (text ≡ front ++ codes ",\"warnings\":" ++ list ++ codes "}\n")
