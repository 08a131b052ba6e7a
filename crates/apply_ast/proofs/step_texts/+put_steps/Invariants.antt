use Rattle.std.proofs.Common.{◌≡◌, ◌++◌, map, take, string_bytes}
use Rattle.std.specs.List.{join_with_byte}
use Rattle.apply_ast.specs.Views.{key_of, step_of, pipe_of}
use Rattle.apply_ast.specs.Printing.{print, print_key, print_step}
use Rattle.apply_ast.proofs.step_texts.+put_steps.Given as goal

abbrev pub invariant-put_keys-loop-i : goal.invariant-put_keys-loop-i
invariant-put_keys-loop-i l = string_bytes l.out ≡ string_bytes l.fn.out ++ join_with_byte 44 (map print_key (map key_of (take l.i l.keys)))

abbrev pub invariant-put_pipes-loop-i : goal.invariant-put_pipes-loop-i
invariant-put_pipes-loop-i l = string_bytes l.out ≡ string_bytes l.fn.out ++ join_with_byte 44 (map print (map pipe_of (take l.i l.pipes)))

abbrev pub invariant-put_pipe-loop-i : goal.invariant-put_pipe-loop-i
invariant-put_pipe-loop-i l = string_bytes l.out ≡ string_bytes l.fn.out ++ join_with_byte 47 (map print_step (map step_of (take l.i l.step-items)))
