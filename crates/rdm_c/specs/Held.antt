-- What a pointer that C holds owns: it is null, or it owns a box.
use mir.Syntax.{Ty}
use base.Fml.{Fml, feq}
use denote.RawPtr.{Ptr, null_ptr}
use Rattle.std.specs.Prelude.{Option, Some, None}
use Rattle.std_alloc.specs.Box.Ownership.{box_owns}
use Rattle.std_heap.specs.declared.Global.{Global}
use Rattle.std_heap.specs.contracts.GlobalAllocator.TheImpl.{ghosts}
use Rattle.rdm_c.specs.contracts.endpoint.Endpoint.{the_row}

-- the right to free a block of the C library's heap, which is the same for each handle of that heap
abbrev pub any_handle : Global
any_handle = record { memory = record { seal = tt } }

abbrev pub may_free : Ty → Ptr → Fml
may_free ty p = ghosts.dealloc_token any_handle ty p

abbrev pub held_at : Ptr → Option the_row.Denot → Fml
held_at p None = feq Ptr p null_ptr
held_at p (Some x) = box_owns may_free the_row p x
