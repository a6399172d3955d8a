-- What a handle owns: nothing at null, else what a `Box<Builder>` at the pointer owns. No other file names the builder's row.
use base.Fml.{Fml, feq}
use base.Stored.{Coded}
use denote.RattleType.{RattleType}
use denote.RawPtr.{Ptr, null_ptr}
use Rattle.std.specs.Coded.{coded_option}
use Rattle.std.specs.Box.Ownership.{box_owns}
use Rattle.std.specs.Global.{Global}
use Rattle.std.specs.declared.option.Option.{Option}
use Rattle.std.specs.declared.option.Option.TheVariants.{None, Some}
use Rattle.std_heap.specs.contracts.GlobalAllocator.TheImpl.{ghosts}
use Rattle.papergrid_builder.specs.contracts.builder.Builder.{the_row}

-- the type of what a handle may have
abbrev pub HeldRow : RattleType
HeldRow = the_row

-- a value of it: the state of a table (`BuilderState`)
abbrev pub Held : Type 0
Held = HeldRow.Denot

-- the pointer p is null where there is no builder, else it owns the box of one
abbrev pub handle_owns : Global → Ptr → Option Held → Fml
handle_owns alloc p None = feq Ptr p null_ptr
handle_owns alloc p (Some held) = box_owns (ghosts.dealloc_token alloc) HeldRow p held

-- how the logic stores what a handle has
abbrev pub held_coded : Coded (Option Held)
held_coded = coded_option HeldRow.coded
