-- The definition's search computes once the number is known; past the last arm each of its tests fails.
use Rattle.registers.specs.Text.{bytes, if◌then◌otherwise◌}
use Rattle.registers.specs.Error.{message_in}
use Rattle.registers.proofs.error.Texts.{message_none}
use Rattle.registers.proofs.error.message.Goals as goal

pub returns-in-0 : goal.returns-in-0
unfolding message_in bytes if◌then◌otherwise◌
returns-in-0 c = rw c.in-0.is

pub returns-in-101 : goal.returns-in-101
unfolding message_in bytes if◌then◌otherwise◌
returns-in-101 c = rw c.in-101.is

pub returns-in-102 : goal.returns-in-102
unfolding message_in bytes if◌then◌otherwise◌
returns-in-102 c = rw c.in-102.is

pub returns-in-104 : goal.returns-in-104
unfolding message_in bytes if◌then◌otherwise◌
returns-in-104 c = rw c.in-104.is

pub returns-in-108 : goal.returns-in-108
unfolding message_in bytes if◌then◌otherwise◌
returns-in-108 c = rw c.in-108.is

pub returns-in-109 : goal.returns-in-109
unfolding message_in bytes if◌then◌otherwise◌
returns-in-109 c = rw c.in-109.is

pub returns-in-113 : goal.returns-in-113
unfolding message_in bytes if◌then◌otherwise◌
returns-in-113 c = rw c.in-113.is

pub returns-in-114 : goal.returns-in-114
unfolding message_in bytes if◌then◌otherwise◌
returns-in-114 c = rw c.in-114.is

pub returns-in-121 : goal.returns-in-121
unfolding message_in bytes if◌then◌otherwise◌
returns-in-121 c = rw c.in-121.is

pub returns-in-123 : goal.returns-in-123
unfolding message_in bytes if◌then◌otherwise◌
returns-in-123 c = rw c.in-123.is

pub returns-in-124 : goal.returns-in-124
unfolding message_in bytes if◌then◌otherwise◌
returns-in-124 c = rw c.in-124.is

pub returns-in-131 : goal.returns-in-131
unfolding message_in bytes if◌then◌otherwise◌
returns-in-131 c = rw c.in-131.is

pub returns-in-138 : goal.returns-in-138
unfolding message_in bytes if◌then◌otherwise◌
returns-in-138 c = rw c.in-138.is

pub returns-in-141 : goal.returns-in-141
unfolding message_in bytes if◌then◌otherwise◌
returns-in-141 c = rw c.in-141.is

pub returns-in-150 : goal.returns-in-150
unfolding message_in bytes if◌then◌otherwise◌
returns-in-150 c = rw c.in-150.is

pub returns-in-151 : goal.returns-in-151
unfolding message_in bytes if◌then◌otherwise◌
returns-in-151 c = rw c.in-151.is

pub returns-in-221 : goal.returns-in-221
unfolding message_in bytes if◌then◌otherwise◌
returns-in-221 c = rw c.in-221.is

pub returns-in-222 : goal.returns-in-222
unfolding message_in bytes if◌then◌otherwise◌
returns-in-222 c = rw c.in-222.is

pub returns-in-223 : goal.returns-in-223
unfolding message_in bytes if◌then◌otherwise◌
returns-in-223 c = rw c.in-223.is

pub returns-in-314 : goal.returns-in-314
unfolding message_in bytes if◌then◌otherwise◌
returns-in-314 c = rw c.in-314.is

pub returns-in-350 : goal.returns-in-350
unfolding message_in bytes if◌then◌otherwise◌
returns-in-350 c = rw c.in-350.is

pub returns-in-363 : goal.returns-in-363
unfolding message_in bytes if◌then◌otherwise◌
returns-in-363 c = rw c.in-363.is

pub returns-in-410 : goal.returns-in-410
unfolding message_in bytes if◌then◌otherwise◌
returns-in-410 c = rw c.in-410.is

pub returns-in-420 : goal.returns-in-420
unfolding message_in bytes if◌then◌otherwise◌
returns-in-420 c = rw c.in-420.is

pub returns-in-430 : goal.returns-in-430
unfolding message_in bytes if◌then◌otherwise◌
returns-in-430 c = rw c.in-430.is

pub returns-in_default : goal.returns-in_default
unfolding bytes
returns-in_default c = rw (message_none c.args.number c.in_default.in_default-own.rest)
