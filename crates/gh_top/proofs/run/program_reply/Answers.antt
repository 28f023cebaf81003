use Rattle.gh_ast.specs.Plain.{program_of}
use Rattle.gh_top.proofs.HeadlineLemmas.{text_refused, late_refused, replied, replied_on}
use Rattle.gh_top.proofs.ReadLemmas.{stays_on, second_ordered}
use Rattle.gh_top.proofs.run.program_reply.Goals as goal

pub returns-in-Err-Refused-clause-ok : goal.returns-in-Err-Refused-clause-ok
returns-in-Err-Refused-clause-ok g c =
    text_refused (g.I.Inputs.table c.args.inputs.now) c.args.request.now c.args.text.now c.in-Err-Refused.refusal _ _
    c.requires.on_program c.requires.read (rw c.in-Err-Refused.field-0-is at c.in-Err-Refused.ensures.refused)
    c.in_ok-refused-in-Err-Refused.ensures.status c.in_ok-refused-in-Err-Refused.ensures.text

pub returns-in-Err-Refused-new-clause-ok : goal.returns-in-Err-Refused-new-clause-ok
returns-in-Err-Refused-new-clause-ok g c =
    let late = rw c.in-Err-Refused-new.field-0-is at c.in-Err-Refused-new.ensures.refused in
    text_refused (g.I.Inputs.table c.args.inputs.now) c.args.request.now c.args.text.now c.in-Err-Refused-new.refusal _
    _ c.requires.on_program c.requires.read
    (late_refused c.args.text.now (program_of c.in-Ok.typed) c.in-Err-Refused-new.refusal c.in-Ok.ensures.text late)
    c.in_ok-refused-in-Err-Refused-new.ensures.status c.in_ok-refused-in-Err-Refused-new.ensures.text

pub returns-in_err-refused-in-Err-Refused-clause-order : goal.returns-in_err-refused-in-Err-Refused-clause-order
returns-in_err-refused-in-Err-Refused-clause-order g c = stays_on c.args.request.now _

pub returns-in-Err-Refused-clause-order : goal.returns-in-Err-Refused-clause-order
returns-in-Err-Refused-clause-order g c = stays_on c.args.request.now _

pub returns-in-Err-OutOfMemory-clause-order : goal.returns-in-Err-OutOfMemory-clause-order
returns-in-Err-OutOfMemory-clause-order g c = stays_on c.args.request.now _

pub returns-in_err-refused-in-Err-Refused-new-clause-order : goal.returns-in_err-refused-in-Err-Refused-new-clause-order
returns-in_err-refused-in-Err-Refused-new-clause-order g c = stays_on c.args.request.now _

pub returns-in-Err-Refused-new-clause-order : goal.returns-in-Err-Refused-new-clause-order
returns-in-Err-Refused-new-clause-order g c = stays_on c.args.request.now _

pub returns-in-Err-OutOfMemory-new-clause-order : goal.returns-in-Err-OutOfMemory-new-clause-order
returns-in-Err-OutOfMemory-new-clause-order g c = stays_on c.args.request.now _

pub returns-in_err-reply_on_one-in-None-clause-order : goal.returns-in_err-reply_on_one-in-None-clause-order
returns-in_err-reply_on_one-in-None-clause-order g c = stays_on c.args.request.now _

pub returns-clause-order : goal.returns-clause-order
returns-clause-order g c = stays_on c.args.request.now _

pub returns-in_err-second-in-Some-clause-order : goal.returns-in_err-second-in-Some-clause-order
returns-in_err-second-in-Some-clause-order g c =
    let is = rw c.in-Some.is at c.second_file.ensures in
    second_ordered c.args.request.now c.in-Some.name.now c.in-Some.most c.args.text.now (program_of c.in-Ok.typed) _ is
    c.requires.on_program c.requires.read c.in-Ok.ensures.text
    c.in-Ok-new.ensures.admitted c.read_file.ensures.file

pub returns-in_err-reply_on_two-in-Some-clause-order : goal.returns-in_err-reply_on_two-in-Some-clause-order
returns-in_err-reply_on_two-in-Some-clause-order g c =
    let is = rw c.in-Some.is at c.second_file.ensures in
    second_ordered c.args.request.now c.in-Some.name.now c.in-Some.most c.args.text.now (program_of c.in-Ok.typed) _ is
    c.requires.on_program c.requires.read c.in-Ok.ensures.text
    c.in-Ok-new.ensures.admitted c.read_file.ensures.file

pub returns-in-Some-clause-order : goal.returns-in-Some-clause-order
returns-in-Some-clause-order g c =
    let is = rw c.in-Some.is at c.second_file.ensures in
    second_ordered c.args.request.now c.in-Some.name.now c.in-Some.most c.args.text.now (program_of c.in-Ok.typed) _ is
    c.requires.on_program c.requires.read c.in-Ok.ensures.text
    c.in-Ok-new.ensures.admitted c.read_file.ensures.file

pub returns-in-Some-clause-ok : goal.returns-in-Some-clause-ok
returns-in-Some-clause-ok g c =
    let is = rw c.in-Some.is at c.second_file.ensures in
    let reply = rw c.in-Ok-new.ensures.same at c.in_ok-reply_on_two-in-Some.ensures in
    replied_on (g.I.Inputs.table c.args.inputs.now) c.args.request.now c.args.text.now c.in_ok-second-in-Some.second
    c.in-Some.name.now c.in-Some.most (program_of c.in-Ok.typed) _ _ c.requires.on_program c.requires.read
    c.in-Ok.ensures.text c.in-Ok-new.ensures.admitted is
    c.in_ok-second-in-Some.ensures.read reply

pub returns-clause-ok : goal.returns-clause-ok
returns-clause-ok g c =
    let reply = rw c.in-Ok-new.ensures.same at c.in_ok-reply_on_one-in-None.ensures in
    replied (g.I.Inputs.table c.args.inputs.now) c.args.request.now c.args.text.now (program_of c.in-Ok.typed) _ _
    c.requires.on_program c.requires.read c.in-Ok.ensures.text c.in-Ok-new.ensures.admitted reply
