use base.Shift.{Keyless}
use mir.Raw.{raw}
use denote.Memory.{lone}
use denote.RawPtr.{Ptr}
use denote.Struct.Struct.{exits_of}
use denote.Struct.Owning.{shape, fields, to}
use denote.Param.Send.{IsSend, AllSend, owning_send, struct_send, sendable}
use Rattle.std.proofs.Crossing as heap
use Rattle.std.specs.Global.{Global}
use Rattle.std.specs.declared.option.Option.{Option}
use Rattle.std.specs.declared.option.Option.TheVariants.{None, Some}
use Rattle.std_alloc.proofs.SendSync.{quiet, lies}
use Rattle.std_heap.proofs.Global.TheSendSync as global
use Rattle.papergrid_builder.proofs.builder.Builder.TheSendSync.{the_send}
use Rattle.papergrid_c.specs.Handle.{HeldRow, Held, handle_owns}
use Rattle.papergrid_c.specs.contracts.handle.Handle.{the_row, the_type}

-- what a handle owns says nothing of a thread
owned : (alloc : Global) (p : Ptr) (held : Option Held) → Keyless (handle_owns alloc p held)
owned alloc p None = tt
owned alloc p (Some held) = (lies HeldRow the_send p held, heap.frees.frees alloc (raw (lone HeldRow.mir)) p)

pub send : IsSend the_row
send =
    let all : AllSend (fields the_type) = (search sendable, (global.the_field_send, tt)) in
    owning_send the_type all (λ d. owned d.alloc d.at d.held) (λ k. quiet (to the_type) (exits_of k (fields the_type)) ((struct_send (shape the_type) all).leaving k))
