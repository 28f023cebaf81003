-- Where the text that a request is about comes from, and which other file a request names.
use Rattle.std.specs.Prelude.{◌≡◌, ℕ, List, Option, Some, None}
use Rattle.gh_ast.specs.Limits.{most_bytes}
use Rattle.gh_top.specs.Rechecks.{most_logged}
use Rattle.gh_draw.specs.Drawings.{most_drawn}
use Rattle.gh_top.specs.Runs.{most_stated}
use Rattle.gh_top.specs.Sessions.{most_edited}
use Rattle.gh_top.specs.Stress.{stress_text}
use Rattle.gh_top.specs.declared.source.Source as kept
use Rattle.gh_top.specs.declared.source.Source.TheVariants.{File, Number}
use Rattle.gh_top.specs.declared.words.Request.{Request}
use Rattle.gh_top.specs.declared.words.Request.TheVariants.{Check, Log, Recheck, Paths, Replay, Smallest, Stress, Smt}
use Rattle.gh_top.specs.declared.words.Request.TheVariants.{Run, Session, Entail}

-- a file of a name, of which so many bytes are taken at most, or a text of its own
pub data Source : Type 0 where
  from_file : List ℕ → ℕ → Source
  self_made : List ℕ → Source

-- the first file of a request; `stress` reads none
abbrev pub source_of : Request → Source
source_of (Check file) = from_file file most_bytes
source_of (Log file) = from_file file most_bytes
source_of (Recheck file log) = from_file file most_bytes
source_of (Paths file) = from_file file most_bytes
source_of (Replay file drawing) = from_file file most_bytes
source_of (Smallest file) = from_file file most_bytes
source_of (Smt file n) = from_file file most_bytes
source_of (Run file state n) = from_file file most_bytes
source_of (Stress n) = self_made (stress_text n)
source_of (Session file) = from_file file most_edited
source_of (Entail file) = from_file file most_bytes

-- how many bytes are taken at most
abbrev pub most_from : Source → ℕ
most_from (from_file name most) = most
most_from (self_made text) = most_bytes

-- the second file of a request, and the most bytes that are taken of it
abbrev pub second_file : Request → Option (List ℕ × ℕ)
second_file (Recheck file log) = Some (log, most_logged)
second_file (Replay file drawing) = Some (drawing, most_drawn)
second_file (Run file state n) = Some (state, most_stated)
second_file r = None

-- the request's source as the code keeps it
abbrev pub IsSource : kept.Source → Request → Type 0
IsSource (File name most) r = source_of r ≡ from_file name.now most
IsSource (Number n) r = r ≡ Stress n
