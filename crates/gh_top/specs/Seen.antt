-- What is told of the outside, before a run and after it.
use Rattle.std.specs.Prelude.{◌≡◌, ℕ, List, Option, None}
use Rattle.std.specs.Io.KnownBytes.{Appends, Keeps}
use Rattle.gh_base.specs.Outside.{Table, Rose, AppendsFront}
use Rattle.gh_base.specs.declared.outside.Inputs as inputs
use Rattle.gh_base.specs.declared.outside.Sink as sink

-- what is told of inputs at one time: the bytes for each name, the names begun, how many calls were made, and how often
-- one failed
pub record InputsTold : Type 0 where
  pub table : Option Table
  pub names : Option (List (List ℕ))
  pub calls : Option ℕ
  pub faults : ℕ

-- what is told of a sink at one time: the bytes written, and how often a call failed
pub record SinkTold : Type 0 where
  pub written : Option (List ℕ)
  pub faults : ℕ

-- what is told of inputs before a run and after it
pub record Reading : Type 0 where
  pub before : InputsTold
  pub after : InputsTold

-- what is told of a sink before a run and after it
pub record Writing : Type 0 where
  pub before : SinkTold
  pub after : SinkTold

-- what is told of the inputs and of the sink
pub record Outside : Type 0 where
  pub reading : Reading
  pub writing : Writing

-- the bytes for each name, where they are told
abbrev pub table_of : Outside → Option Table
table_of o = o.reading.before.table

-- the inputs' count of faults

abbrev pub InputsCountRose : Reading → Type 0
InputsCountRose r = Rose r.before.faults r.after.faults

abbrev pub InputsCountStands : Reading → Type 0
InputsCountStands r = r.after.faults ≡ r.before.faults

-- the sink's count of faults

abbrev pub SinkCountRose : Writing → Type 0
SinkCountRose w = Rose w.before.faults w.after.faults

abbrev pub SinkCountStands : Writing → Type 0
SinkCountStands w = w.after.faults ≡ w.before.faults

-- what was written: exactly this text, some front of it, or nothing

abbrev pub Writes : Writing → List ℕ → Type 0
Writes w text = Appends w.before.written w.after.written text

abbrev pub WritesFront : Writing → List ℕ → Type 0
WritesFront w text = AppendsFront w.before.written w.after.written text

abbrev pub WritesNothing : Writing → Type 0
WritesNothing w = Keeps w.before.written w.after.written

-- what inputs and a sink tell

abbrev pub inputs_at : {T : Type 0} → inputs.Ghosts T → T → InputsTold
inputs_at I x = record { table = I.table x; names = I.names x; calls = I.calls x; faults = I.faults x }

abbrev pub sink_at : {T : Type 0} → sink.Ghosts T → T → SinkTold
sink_at S u = record { written = S.written u; faults = S.faults u }

abbrev pub reading : {T : Type 0} → inputs.Ghosts T → T → T → Reading
reading I x y = record { before = inputs_at I x; after = inputs_at I y }

abbrev pub writing : {T : Type 0} → sink.Ghosts T → T → T → Writing
writing S u v = record { before = sink_at S u; after = sink_at S v }

abbrev pub seen : {T U : Type 0} → inputs.Ghosts T → sink.Ghosts U → T → T → U → U → Outside
seen I S x y u v = record { reading = reading I x y; writing = writing S u v }

-- what is told of a sink that tells nothing and never fails
abbrev pub silent : Writing
silent = record { before = record { written = None; faults = 0 }; after = record { written = None; faults = 0 } }
