mod Leaves
mod Lengths
mod Traces
