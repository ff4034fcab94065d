mod Entering
mod Grouped
mod Judged
mod MockBlocks
mod MockClaims
mod MockCodecs
mod Placed
mod Produced
