-- Parts of procedures and programs that the parser reads by themselves.
use Rattle.std.specs.Prelude.{◌≡◌, List, [], ◌∷◌, ◌++◌, Option, codes}
use Rattle.std.specs.Option.{option_map}
use Rattle.gh_base.specs.declared.place.Span.{Span}
use Rattle.gh_ast.specs.declared.Occ.{Occ}
use Rattle.gh_ast.specs.declared.Field.{Field}
use Rattle.gh_ast.specs.declared.sign.Sign.TheVariants as sg
use Rattle.gh_ast.specs.declared.sign.Keyword.TheVariants as kw
use Rattle.gh_ast.specs.Plain as plain
use Rattle.gh_ast.specs.Tokens.{Token, named, key, sign}
use Rattle.gh_ast.specs.Grammar.{SpellsLocals, SpellsHeader, SpellsResults, SpellsBody, SpellsWord, SpellsFields}
use Rattle.gh_ast.specs.Grammar.{SpellsProcedures}
use Rattle.gh_parse.specs.declared.procedures.Heading.{Heading}
use Rattle.gh_parse.specs.declared.procedures.Ending.{Ending}
use Rattle.gh_parse.specs.declared.programs.Fields.{Fields}

-- the locals of a declaration are added after the old ones
pub record AddsLocals (old : List Occ) (ts : List Token) (new : List Occ) (rest : List Token) : Type 0 where
  pub locals : List Occ
  pub spelled : SpellsLocals ts locals rest
  pub added : new ≡ old ++ locals

-- a procedure up to its results
pub record Head : Type 0 where
  pub name : Occ
  pub parameters : List Occ
  pub results : List Occ

abbrev pub heading_of : Heading → Head
heading_of h = record { name = h.name; parameters = h.parameters.items; results = h.results.items }

pub record SpellsHeading (ts : List Token) (h : Head) (rest : List Token) : Type 0 where
  pub word : Span
  pub bracket : Span
  pub inside : List Token
  pub after_parameters : List Token
  pub front : ts ≡ key kw.Procedure word ∷ named h.name ∷ sign sg.ParenOpen bracket ∷ inside
  pub parameters : SpellsHeader inside h.parameters after_parameters
  pub results : SpellsResults after_parameters h.results rest

-- a body, or none, and the place of its end
pub record Ended : Type 0 where
  pub body : Option plain.Body
  pub close : Span

abbrev pub ended_of : Ending → Ended
ended_of e = record { body = option_map plain.body_of e.body; close = e.close }

abbrev pub SpellsEnded : List Token → Ended → List Token → Type 0
SpellsEnded ts e rest = SpellsBody ts e.body e.close rest

-- a field of the struct
pub record SpellsField (ts : List Token) (f : Field) (rest : List Token) : Type 0 where
  pub var : Span
  pub colon : Span
  pub end : Span
  pub after_var : List Token
  pub after_name : List Token
  pub after_colon : List Token
  pub after_kind : List Token
  pub kind : Occ
  pub begins : ts ≡ key kw.Var var ∷ after_var
  pub name : SpellsWord kw.Next (codes "next") after_var f.name after_name
  pub middle : after_name ≡ sign sg.Colon colon ∷ after_colon
  pub type : SpellsWord kw.Node (codes "Node") after_colon kind after_kind
  pub ends : after_kind ≡ sign sg.Semicolon end ∷ rest
  pub same : f.kind ≡ kind.name

-- fields, and the place of the brace after them
pub record Shape : Type 0 where
  pub fields : List Field
  pub close : Span

abbrev pub shape_of : Fields → Shape
shape_of f = record { fields = f.fields.items; close = f.close }

abbrev pub SpellsShape : List Token → Shape → List Token → Type 0
SpellsShape ts s rest = SpellsFields ts s.fields s.close rest

-- what a rule spells of all tokens: none is left
pub record SpellsToEnd {X : Type 0} (Spells : List Token → X → Type 0) (ts : List Token) (x : X)
    (rest : List Token) : Type 0 where
  pub spelled : Spells ts x
  pub end : rest ≡ []

-- procedures up to the end
abbrev pub SpellsAll : List Token → List plain.Procedure → List Token → Type 0
SpellsAll = SpellsToEnd SpellsProcedures
