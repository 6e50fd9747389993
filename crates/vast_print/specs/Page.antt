-- Pages: lines with depths, how they are printed, and the words in which layouts are written.
use Rattle.std.specs.Prelude.{ℕ, suc, ◌*◌, List, [], ◌∷◌, ◌++◌, Option, None, cond, eqb, replicate}
use Rattle.vast_print.specs.declared.refusal.Refusal.{Refusal}
use Rattle.vast_print.specs.Printed.{Printed, first_fault}

pub record Line : Type 0 where
  pub depth : ℕ
  pub bytes : List ℕ

-- lines, and the first refusal in the order of the text where there is one
pub record Page : Type 0 where
  pub lines : List Line
  pub fault : Option Refusal

-- two spaces for each depth before a line that isn't empty
abbrev pub indent : ℕ → List ℕ → List ℕ
indent d [] = []
indent d (c ∷ cs) = replicate (2 * d) 32

-- a line break after every line
unfoldable pub print_lines : List Line → List ℕ
print_lines [] = []
print_lines (l ∷ p) = indent l.depth l.bytes ++ (l.bytes ++ (10 ∷ print_lines p))

-- The page's lines, each after two spaces a depth unless it is empty, and before a line break.
unfoldable pub print : Page → List ℕ
print p = print_lines p.lines

unfoldable pub no_lines : Page
no_lines = record { lines = []; fault = None }

unfoldable pub line : List ℕ → Page
line w = record { lines = record { depth = 0; bytes = w } ∷ []; fault = None }

-- one deeper
abbrev pub deeper : Line → Line
deeper l = record { depth = suc l.depth; bytes = l.bytes }

unfoldable pub inner_lines : List Line → List Line
inner_lines [] = []
inner_lines (l ∷ p) = deeper l ∷ inner_lines p

-- every line one deeper
unfoldable pub inner : Page → Page
inner p = record { lines = inner_lines p.lines; fault = p.fault }

unfoldable pub lead_lines : List Line → List Line
lead_lines [] = []
lead_lines (l ∷ p) = deeper l ∷ p

-- the first line alone one deeper
unfoldable pub lead : Page → Page
lead p = record { lines = lead_lines p.lines; fault = p.fault }

-- p, and q below it
unfoldable pub above : Page → Page → Page
above p q = record { lines = p.lines ++ q.lines; fault = first_fault p.fault q.fault }

abbrev pub glue : Line → List Line → List Line
glue l [] = l ∷ []
glue l (m ∷ q) = record { depth = l.depth; bytes = l.bytes ++ m.bytes } ∷ q

unfoldable pub beside_lines : List Line → List Line → List Line
beside_lines [] q = q
beside_lines (l ∷ []) q = glue l q
beside_lines (l ∷ m ∷ p) q = l ∷ beside_lines (m ∷ p) q

-- p, and q going on after its last line
unfoldable pub beside : Page → Page → Page
beside p q = record { lines = beside_lines p.lines q.lines; fault = first_fault p.fault q.fault }

abbrev pub one_line : List ℕ → List Line
one_line w = record { depth = 0; bytes = w } ∷ []

-- a line break ends a line
unfoldable pub written_lines : List ℕ → List Line
written_lines [] = one_line []
written_lines (c ∷ w) = cond (eqb c 10) (one_line [] ++ written_lines w) (beside_lines (one_line (c ∷ [])) (written_lines w))

-- a text as a page
unfoldable pub written : Printed → Page
written p = record { lines = written_lines p.text; fault = p.fault }

-- a line of a comment
abbrev pub note : List ℕ → List ℕ
note [] = 47 ∷ 47 ∷ []
note (c ∷ w) = 47 ∷ 47 ∷ 32 ∷ c ∷ w

unfoldable pub commented_lines : List Line → List Line
commented_lines [] = []
commented_lines (l ∷ p) = record { depth = l.depth; bytes = note l.bytes } ∷ commented_lines p

-- each line as a comment
unfoldable pub commented : Page → Page
commented p = record { lines = commented_lines p.lines; fault = p.fault }
