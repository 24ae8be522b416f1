-- In the small tables that aren't sound a reference leads nowhere: at once, at a part, or one reference later.
use Rattle.lucid_flat.proofs.SoundCommon.{None, refl, inl, Elements, root, call_frame, reference, refer, the_root, part, gone_on}
use Rattle.lucid_flat.specs.Astray.{GoesAstray, FramesAreMissed, called_outermost, part_elsewhere, reference_inwards, place_of_another, body_elsewhere, actual_missing, root_elsewhere}

abbrev no_elements : Elements
no_elements n j = None

pub outermost-astray : GoesAstray called_outermost
outermost-astray h = h no_elements 0 0 0 0 0 (reference (refer 0 0)) root 0 0 the_root tt refl

pub part-astray : GoesAstray part_elsewhere
part-astray h = h no_elements 0 0 0 0 0 (reference (refer 0 1)) root 0 0 (part 0 the_root (inl refl) refl) tt refl

pub inwards-astray : GoesAstray reference_inwards
inwards-astray h = h no_elements 0 0 0 0 0 (reference (refer 0 0)) root 0 0 the_root tt refl

pub place-astray : GoesAstray place_of_another
place-astray h =
    h no_elements 1 0 0 0 0 (reference (refer 1 1)) (call_frame 0 root root) 0 0
    (gone_on {k = record { name = 0; context = call_frame 0 root root; time = 0 }}
    {x = record { node = reference (refer 1 1); context = call_frame 0 root root }} the_root refl) tt refl

pub body-astray : GoesAstray body_elsewhere
body-astray h =
    h no_elements 1 0 0 0 0 (reference (refer 1 1)) root 0 0
    (gone_on {k = record { name = 0; context = root; time = 0 }} {x = record { node = reference (refer 1 1); context = root }} the_root refl) tt refl

pub actual-astray : GoesAstray actual_missing
actual-astray h =
    h no_elements 1 0 0 0 0 (reference (refer 1 1)) (call_frame 0 root root) 0 0
    (gone_on {k = record { name = 0; context = call_frame 0 root root; time = 0 }}
    {x = record { node = reference (refer 1 1); context = call_frame 0 root root }} the_root refl) tt refl

pub root-astray : GoesAstray root_elsewhere
root-astray h = h no_elements 0 0 0 0 0 (reference (refer 0 1)) root 0 0 the_root tt refl

pub frames-missed : FramesAreMissed
frames-missed h = h no_elements 1 0 0 0 (record { name = 0; context = root; time = 0 }, 0) (inl refl)
