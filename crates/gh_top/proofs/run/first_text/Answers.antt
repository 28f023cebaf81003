use Rattle.std.proofs.Common.{arith}
use Rattle.std.proofs.lemmas.Result.{IfOk-weaker}
use Rattle.std.specs.Prelude.{⊤}
use Rattle.gh_top.specs.Causes.{IsOnFiles}
use Rattle.gh_top.specs.Seen.{reading}
use Rattle.gh_top.proofs.FileLemmas.{cause_for, file_read, made_read, file_on_files}
use Rattle.gh_top.proofs.ReadLemmas.{first_read, made_first}
use Rattle.gh_top.proofs.run.first_text.Goals as goal

pub stress_text-requires : goal.stress_text-requires
stress_text-requires g c =
    let is = rw c.in-Number.is at c.source.ensures in
    let limits = (rw is at c.requires.limits).0 in
    λ none. absurd (omega (arith, limits, none))

pub returns-in-File-clause-read : goal.returns-in-File-clause-read
returns-in-File-clause-read g c =
    let is = rw c.in-File.is at c.source.ensures in
    IfOk-weaker c.read_file.result _ _
    (λ f k. file_read (g.I.Inputs.table c.args.inputs.now) c.args.request.now c.in-File.name.now c.in-File.most f is
    k) c.read_file.ensures.read

pub returns-in-File-clause-cause : goal.returns-in-File-clause-cause
returns-in-File-clause-cause g c =
    let is = rw c.in-File.is at c.source.ensures in
    let r = reading g.I.Inputs c.args.inputs.now c.read_file.new.inputs in
    cause_for ⊤ (IsOnFiles c.args.request.now) r c.read_file.result
    (λ t. file_on_files c.args.request.now c.in-File.name.now c.in-File.most is) c.read_file.ensures.cause

pub returns-in-File-clause-first : goal.returns-in-File-clause-first
returns-in-File-clause-first g c =
    let is = rw c.in-File.is at c.source.ensures in
    first_read c.args.request.now c.in-File.name.now c.in-File.most _ is c.read_file.ensures.file

pub returns-in_ok-stress_text-in-Number-clause-read : goal.returns-in_ok-stress_text-in-Number-clause-read
returns-in_ok-stress_text-in-Number-clause-read g c =
    let is = rw c.in-Number.is at c.source.ensures in
    made_read (g.I.Inputs.table c.args.inputs.now) c.args.request.now c.in-Number.n _ is
    c.in_ok-stress_text-in-Number.ensures

pub returns-in_ok-stress_text-in-Number-clause-first : goal.returns-in_ok-stress_text-in-Number-clause-first
returns-in_ok-stress_text-in-Number-clause-first g c =
    let is = rw c.in-Number.is at c.source.ensures in
    made_first c.args.request.now c.in-Number.n _ is

pub returns-in_err-stress_text-in-Number-clause-first : goal.returns-in_err-stress_text-in-Number-clause-first
returns-in_err-stress_text-in-Number-clause-first g c =
    let is = rw c.in-Number.is at c.source.ensures in
    made_first c.args.request.now c.in-Number.n _ is
