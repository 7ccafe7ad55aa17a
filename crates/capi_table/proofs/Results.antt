-- A weaker statement about a result.
use Rattle.std.proofs.Common.{Ok, Err}
use Rattle.std.specs.Prelude.{Result}
use Rattle.capi_table.specs.Reading.{IfFailed, IfNoRoom}
use Rattle.capi_table.specs.Writing.{IfLacksRoom, IfTableRejected, IfUnwritten}
use Rattle.capi_table.specs.declared.fault.Failure.{Failure}
use Rattle.capi_table.specs.declared.read.Sizes.{Sizes}
use Rattle.capi_table.specs.declared.read.Unread.{Unread}
use Rattle.capi_table.specs.declared.read.Unread.TheVariants as unread
use Rattle.capi_table.specs.declared.write.Fault.{Fault}
use Rattle.capi_table.specs.declared.write.Image.{Image}
use Rattle.capi_table.specs.declared.write.Unwritten.{Unwritten}
use Rattle.capi_table.specs.declared.write.Unwritten.TheVariants as unwritten

pub no_room_weaker : (r : Result Sizes Unread) (P Q : Sizes → Type 0) → ((s : Sizes) → P s → Q s)
    → IfNoRoom r P → IfNoRoom r Q
no_room_weaker (Ok sizes) P Q f h = h
no_room_weaker (Err (unread.NoRoom sizes)) P Q f h = f sizes h
no_room_weaker (Err (unread.Failed failure)) P Q f h = h

pub failed_weaker : (r : Result Sizes Unread) (P Q : Failure → Type 0) → ((e : Failure) → P e → Q e)
    → IfFailed r P → IfFailed r Q
failed_weaker (Ok sizes) P Q f h = h
failed_weaker (Err (unread.NoRoom sizes)) P Q f h = h
failed_weaker (Err (unread.Failed failure)) P Q f h = f failure h

pub passed_weaker : (r : Result Image Unwritten) (P Q : Image → Type 0) → ((i : Image) → P i → Q i)
    → IfLacksRoom r P → IfLacksRoom r Q
passed_weaker (Ok told) P Q f h = h
passed_weaker (Err (unwritten.NoRoom told)) P Q f h = f told h
passed_weaker (Err (unwritten.Refused fault)) P Q f h = h
passed_weaker (Err unwritten.Memory) P Q f h = h

pub refused_weaker : (r : Result Image Unwritten) (P Q : Fault → Type 0) → ((e : Fault) → P e → Q e)
    → IfTableRejected r P → IfTableRejected r Q
refused_weaker (Ok told) P Q f h = h
refused_weaker (Err (unwritten.NoRoom told)) P Q f h = h
refused_weaker (Err (unwritten.Refused fault)) P Q f h = f fault h
refused_weaker (Err unwritten.Memory) P Q f h = h

pub unwritten_of : (r : Result Image Unwritten) (P : Type 0) → P → IfUnwritten r P
unwritten_of (Ok told) P h = tt
unwritten_of (Err (unwritten.NoRoom told)) P h = tt
unwritten_of (Err (unwritten.Refused fault)) P h = tt
unwritten_of (Err unwritten.Memory) P h = h
