-- What lies at an address that C passes, which may be NULL.
use base.Fml.{Fml, ftrue, ffalse, feq, fsep}
use denote.RawPtr.{Ptr, block_ptr, null_ptr}
use Rattle.std.specs.Prelude.{[], List, None, ℕ, suc, zero}
use denote.Builtin.{u8}
use denote.Memory.{mem}
use denote.Slice.{room}
use types.SemTy.{Arr}
use Rattle.std.specs.Ptr.{points_to}
use Rattle.rdm_c.specs.contracts.handle.Handle.{the_row}

-- a handle that holds nothing: {0} in C
abbrev pub nobody : the_row.Denot
nobody = record { at = null_ptr; held = None }

-- The handle that lies there, which is lent for a call. At NULL there is none, and no memory is lent.
abbrev pub handle_at : Ptr → the_row.Denot → Fml
handle_at null_ptr handle = ftrue
handle_at (block_ptr b o) handle = points_to the_row (block_ptr b o) handle

-- So many bytes that lie there and are the call's own until it returns, so that it may write them.
abbrev pub array_at : Ptr → ℕ → List ℕ → Fml
array_at null_ptr n bytes = ffalse
array_at (block_ptr b o) n bytes = fsep (room u8 n) ((Arr (mem u8) n).own_at bytes b o)

-- The same, but if there are none nothing lies there, and the address may be NULL.
abbrev pub writable_at : Ptr → ℕ → List ℕ → Fml
writable_at at zero bytes = feq (List ℕ) bytes []
writable_at at (suc n) bytes = array_at at (suc n) bytes
