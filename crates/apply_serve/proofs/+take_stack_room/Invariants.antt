use Rattle.apply_serve.proofs.+take_stack_room.Given as goal

abbrev pub decreases-take_stack_room : goal.decreases-take_stack_room
decreases-take_stack_room l = l.pages
