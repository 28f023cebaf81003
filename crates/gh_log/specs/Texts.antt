-- The text of a log: ASCII lines, each with a line feed, its parts separated by one space, numbers in decimal.
use Rattle.std.specs.Prelude.{◌≡◌, ℕ, suc, List, [], ◌∷◌, ◌++◌, cond, codes}
use Rattle.std.specs.List.{flat_map}
use Rattle.std.specs.Fmt.{decimal}
use Rattle.gh_base.specs.declared.atom.Term.{Term}
use Rattle.gh_base.specs.declared.atom.Atom.{Atom}
use Rattle.gh_base.specs.declared.atom.Atom.TheVariants.{Eq, Btwn, Hop, Alloc, Def}
use Rattle.gh_base.specs.declared.atom.Lit.{Lit}
use Rattle.gh_base.specs.Texts.{line_end}
use Rattle.gh_inst.specs.declared.naming.InstanceName.{InstanceName}
use Rattle.gh_inst.specs.Instances.{tuple_of}
use Rattle.gh_log.specs.Lines.{LogLine}
use Rattle.gh_log.specs.Lines as line

-- a text was added to another
pub record Adds (before after added : List ℕ) : Type 0 where
  pub same : after ≡ before ++ added

-- `.` and a number
abbrev pub dotted : ℕ → List ℕ
dotted n = codes "." ++ decimal n

abbrev pub atom_text : Atom → List ℕ
atom_text (Eq a b) = codes "E" ++ dotted a.0 ++ dotted b.0
atom_text (Btwn v x y z) = codes "B" ++ dotted v ++ dotted x.0 ++ dotted y.0 ++ dotted z.0
atom_text (Hop v x y) = codes "H" ++ dotted v ++ dotted x.0 ++ dotted y.0
atom_text (Alloc v x) = codes "A" ++ dotted v ++ dotted x.0
atom_text (Def number) = codes "D" ++ dotted number

abbrev pub sign_text : Lit → List ℕ
sign_text l = cond l.positive [] (codes "-")

-- each literal after a space
abbrev pub lits_text : List Lit → List ℕ
lits_text lits = flat_map (λ l. codes " " ++ sign_text l ++ atom_text l.atom) lits

abbrev pub term_text : Term → List ℕ
term_text t = codes " " ++ decimal t.0

-- each number after a space
abbrev pub numbers_text : List ℕ → List ℕ
numbers_text ns = flat_map (λ n. codes " " ++ decimal n) ns

-- the line of an instance: its letter, and then row, version and terms
abbrev pub name_text : InstanceName → List ℕ
name_text name =
    codes "a " ++ decimal name.row ++ codes " " ++ decimal name.version ++ flat_map term_text (tuple_of name)
    ++ line_end

abbrev pub line_text : LogLine → List ℕ
line_text (line.Axiom name) = name_text name
line_text (line.Clause k) = codes "g " ++ decimal k ++ line_end
line_text (line.Lemma c) = codes "e" ++ lits_text c ++ line_end
line_text (line.Learnt c) = codes "l" ++ lits_text c ++ line_end
line_text (line.Hinted c hints) = codes "l" ++ lits_text c ++ codes " ;" ++ numbers_text hints ++ line_end
line_text (line.Delete positions) = codes "d" ++ numbers_text positions ++ line_end

-- the header of a section, after which its lines come
abbrev pub header_text : ℕ → List ℕ
header_text number = codes "condition " ++ decimal number ++ line_end

abbrev pub section_text : ℕ → List LogLine → List ℕ
section_text number lines = header_text number ++ flat_map line_text lines

-- sections are numbered from k
abbrev pub sections_text : ℕ → List (List LogLine) → List ℕ
sections_text k [] = []
sections_text k (s ∷ ss) = section_text k s ++ sections_text (suc k) ss

-- the text of a log of this version
abbrev pub log_text : ℕ → List (List LogLine) → List ℕ
log_text version ss = codes "grass log " ++ decimal version ++ line_end ++ sections_text 1 ss
