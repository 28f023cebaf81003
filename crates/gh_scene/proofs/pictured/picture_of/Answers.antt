use Rattle.gh_ast.specs.Plain.{program_of}
use Rattle.gh_scene.proofs.pictured.picture_of.Goals as goal
use Rattle.gh_scene.specs.Sketches.{IsSketch}
use Rattle.gh_scene.specs.declared.sketch.Sketch.TheVariants.{Shown}

pub returns-in_ok-text-in-Shown : goal.returns-in_ok-text-in-Shown
returns-in_ok-text-in-Shown c =
    let P = program_of c.args.typed.now in
    let n = c.args.drawing.now.condition in
    let xs = c.args.drawing.now.trace.states.items in
    let sketch : IsSketch P n xs (Shown c.in-Shown.scene) = rw c.in-Shown.is at c.in_ok-scene.ensures in (
      sketch.0,
      sketch.1,
      record {
        scene = c.in-Shown.scene;
        of_states = sketch.2;
        picture = c.in_ok-text-in-Shown.ensures;
      },
    )
